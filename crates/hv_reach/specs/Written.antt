-- The proofs that are written where the goal isn't reached: the states that hold no unreached atom,
-- or no unreached pair, are dead, and the initial state is one of them.
use Rattle.std.specs.Prelude.{◌≡◌, ◌-◌, ◌<◌, ◌≤◌, ◌==◌, ◌↔◌, ℕ, Bool, true, false, List, []}
use Rattle.std.specs.Prelude.{◌∷◌, length, if◌then◌else◌}
use Rattle.std.specs.List.{All, Contains, flat_map, range_with_len}
use Rattle.hv_task.specs.Strips.{Strips, atoms, start_state}
use Rattle.hv_sets.specs.declared.literal.Literal.{Literal}
use Rattle.hv_lines.specs.DeadLines.{dead_lines, empty_note}
use Rattle.hv_lines.specs.Drafts.{conclusion, onto, prelude}
use Rattle.hv_lines.specs.declared.line.Expr.TheVariants as E
use Rattle.hv_lines.specs.declared.line.Line.{Line}
use Rattle.hv_lines.specs.declared.line.Line.TheVariants as L
use Rattle.hv_reach.specs.Reached.{ReachedAtom, ReachedPair}

-- the goal has an atom that isn't reached from the state
abbrev pub RelaxedExcludesFrom : Strips → List Bool → Type 0
RelaxedExcludesFrom task state =
    (p : ℕ) × Contains task.goal p × (ReachedAtom task state p → ⊥)

-- the goal has an atom that isn't reached from the initial state
abbrev pub RelaxedExcludes : Strips → Type 0
RelaxedExcludes task = RelaxedExcludesFrom task (start_state task)

-- the goal has a pair of atoms, possibly equal, that isn't reached from the state
abbrev pub PairsExcludeFrom : Strips → List Bool → Type 0
PairsExcludeFrom task state =
    (p : ℕ) × (q : ℕ) × Contains task.goal p × Contains task.goal q
    × (ReachedPair task state p q → ⊥)

-- the goal has a pair of atoms, possibly equal, that isn't reached from the initial state
abbrev pub PairsExclude : Strips → Type 0
PairsExclude task = PairsExcludeFrom task (start_state task)

-- the literal that denies an atom
abbrev pub denied : ℕ → Literal
denied p = record { atom = p; positive = false }

-- the clause that denies the atom, where it isn't reached
abbrev pub atom_clauses : (ℕ → Bool) → ℕ → List (List Literal)
atom_clauses reached p = if reached p then [] else (denied p ∷ []) ∷ []

-- the formula of the states that hold no unreached atom: a clause for each such atom, rising
abbrev pub relaxed_formula : ℕ → (ℕ → Bool) → List (List Literal)
relaxed_formula atoms reached = flat_map (atom_clauses reached) (range_with_len 0 atoms)

-- the clause that denies that both atoms are held, where this pair isn't reached
abbrev pub pair_clauses : (ℕ → ℕ → Bool) → ℕ → ℕ → List (List Literal)
pair_clauses reached p q =
    if reached p q then []
    else (if p == q then denied p ∷ [] else denied p ∷ denied q ∷ []) ∷ []

-- the clauses of the unreached pairs of the atom with itself and with greater atoms, rising
abbrev pub row_clauses : ℕ → (ℕ → ℕ → Bool) → ℕ → List (List Literal)
row_clauses atoms reached p = flat_map (pair_clauses reached p) (range_with_len p (atoms - p))

-- the formula of the states that hold no unreached pair: a clause for each such pair, by its lesser
-- atom and then by its greater one
abbrev pub pairs_formula : ℕ → (ℕ → ℕ → Bool) → List (List Literal)
pairs_formula atoms reached = flat_map (row_clauses atoms reached) (range_with_len 0 atoms)

-- The eight lines which show that the states of a Horn formula are dead, where no action leads out
-- of them and none is a goal state. The formula is set m, and the first statement is line k.
abbrev pub dead_block : ℕ → ℕ → List (List Literal) → List Line
dead_block m k clauses = L.Expr m (E.Horn clauses) ∷ dead_lines true m m empty_note k

-- the sixteen lines of the proof by a Horn formula, the newest first
abbrev pub horn_proof : List (List Literal) → List Line
horn_proof clauses = onto (conclusion 5 3 4) (onto (dead_block 3 1 clauses) (onto prelude []))

-- the lines are the proof by the reached atoms
abbrev pub IsRelaxedProof : Strips → List Line → Type 0
IsRelaxedProof task lines =
    (reached : ℕ → Bool)
    × ((p : ℕ) → (reached p ≡ true) ↔ ReachedAtom task (start_state task) p)
    × (lines ≡ horn_proof (relaxed_formula (atoms task) reached))

-- the lines are the proof by the reached pairs
abbrev pub IsPairsProof : Strips → List Line → Type 0
IsPairsProof task lines =
    (reached : ℕ → ℕ → Bool)
    × ((p q : ℕ) → (reached p q ≡ true) ↔ ReachedPair task (start_state task) p q)
    × (lines ≡ horn_proof (pairs_formula (atoms task) reached))

-- the clause denies that all of at most two atoms below the bound are held
pub record IsDenial (bound : ℕ) (clause : List Literal) : Type 0 where
  pub few : length clause ≤ 2
  pub denies : All (λ l. l.positive ≡ false) clause
  pub below : All (λ l. l.atom < bound) clause
