-- What the pruners by reached atoms and by reached pairs cover, and what they write.
use Rattle.std.specs.Prelude.{◌≡◌, ◌≤◌, ◌+◌, ◌↔◌, ℕ, Bool, true, List, Option, Some, IfSome, length}
use Rattle.std.specs.Prelude.{slice_get}
use Rattle.std.specs.List.{All}
use Rattle.hv_task.specs.State.{has_atom}
use Rattle.hv_task.specs.Strips.{Strips, IsState, atoms}
use Rattle.hv_sets.specs.declared.literal.Literal.{Literal}
use Rattle.hv_lines.specs.Meaning.{SetOfStates}
use Rattle.hv_lines.specs.Numbering.{expr_at, expr_count, known_count}
use Rattle.hv_lines.specs.Pruning.{IsNoted, states_in}
use Rattle.hv_lines.specs.declared.line.Expr.TheVariants as E
use Rattle.hv_lines.specs.declared.line.Line.{Line}
use Rattle.hv_lines.specs.declared.note.Note.{Note}
use Rattle.std.specs.Global.{Vec}
use Rattle.hv_reach.specs.Index.{AreSearchRowsOf, IsTaskIndex, SearchRows}
use Rattle.hv_reach.specs.Reached.{IsWithin, ReachedAtom, ReachedPair, has_pair}
use Rattle.hv_reach.specs.Written.{IsDenial, PairsExcludeFrom, RelaxedExcludesFrom, dead_block}
use Rattle.hv_reach.specs.Written.{pairs_formula, relaxed_formula}

-- a state is covered by reached pairs in a task of at most 1,024 atoms alone
abbrev pub PairsCover : Strips → List Bool → Type 0
PairsCover task state = (atoms task ≤ 1024) × PairsExcludeFrom task state

-- the clauses are the formula of the states that hold no atom but those reached from the state
abbrev pub IsRelaxedFormula : Strips → List Bool → List (List Literal) → Type 0
IsRelaxedFormula task state clauses =
    (reached : ℕ → Bool) × ((p : ℕ) → (reached p ≡ true) ↔ ReachedAtom task state p)
    × (clauses ≡ relaxed_formula (atoms task) reached)

-- the clauses are the formula of the states that hold no pair but those reached from the state
abbrev pub IsPairsFormula : Strips → List Bool → List (List Literal) → Type 0
IsPairsFormula task state clauses =
    (reached : ℕ → ℕ → Bool)
    × ((p q : ℕ) → (reached p q ≡ true) ↔ ReachedPair task state p q)
    × (clauses ≡ pairs_formula (atoms task) reached)

-- the eight lines which show that the formula is dead, behind these lines, and their note
abbrev pub IsBlockOf : List Line → List (List Literal) → List Line → Note → Type 0
IsBlockOf lines clauses block note =
    (block ≡ dead_block (expr_count lines) (known_count lines) clauses)
    × (note.set ≡ expr_count lines) × (note.line ≡ known_count lines + 3)

-- the block that is written for the atoms that are reached from the state
abbrev pub IsRelaxedBlock : Strips → List Bool → List Line → List Line → Note → Type 0
IsRelaxedBlock task state lines block note =
    (clauses : List (List Literal)) × IsRelaxedFormula task state clauses
    × IsBlockOf lines clauses block note

-- the block that is written for the pairs that are reached from the state
abbrev pub IsPairsBlock : Strips → List Bool → List Line → List Line → Note → Type 0
IsPairsBlock task state lines block note =
    (clauses : List (List Literal)) × IsPairsFormula task state clauses
    × IsBlockOf lines clauses block note

-- the set is a formula that denies atoms and pairs of atoms below the bound
abbrev pub IsDenied : ℕ → List Line → ℕ → Type 0
IsDenied bound lines set =
    (clauses : List (List Literal)) × (expr_at lines set ≡ Some (E.Horn clauses))
    × All (IsDenial bound) clauses

-- the notes are in the lines, and each is of such a formula
abbrev pub AreHornNotes : Strips → SetOfStates → List Line → List Note → Type 0
AreHornNotes task covered lines notes =
    (k : ℕ) (note : Note) → slice_get notes k ≡ Some note
    → IsNoted task covered lines note × IsDenied (atoms task) lines note.set

-- what a pruner by reached atoms has, as contracts see it: its notes, for each the atoms that were
-- reached, and what the search for reached atoms goes by, once it was made
pub record RelaxedNotes : Type 0 where
  pub notes : List Note
  pub reached : List (List Bool)
  pub search : Option SearchRows

-- the same of a pruner by reached pairs: for each note the table of the pairs that were reached,
-- and the index of the actions, once it was made
pub record PairNotes : Type 0 where
  pub notes : List Note
  pub reached : List (List (List Bool))
  pub index : Option (List (Vec ℕ))

-- the state holds atoms of the row alone
abbrev pub HoldsAtomsOf : List Bool → List Bool → Type 0
HoldsAtomsOf row state = IsWithin state (has_atom row)

-- the state holds pairs of the table alone
abbrev pub HoldsPairsOf : List (List Bool) → List Bool → Type 0
HoldsPairsOf table state =
    (p q : ℕ) → has_atom state p ≡ true → has_atom state q ≡ true → has_pair table p q ≡ true

-- what was reached is over the task's atoms, and the set has the states that hold nothing else
abbrev pub Describes : {X : Type 0} → (List X → List Bool → Type 0) → Strips → List Line → ℕ
    → List X → Type 0
Describes Holds task lines set reached =
    (length reached ≡ atoms task)
    × ((state : List Bool) → IsState task state
    → states_in task lines set state ↔ Holds reached state)

-- there is one such thing for each note
abbrev pub AreDescribed : {X : Type 0} → (List X → List Bool → Type 0) → Strips → List Line
    → List Note → List (List X) → Type 0
AreDescribed Holds task lines notes reached =
    (length reached ≡ length notes)
    × ((k : ℕ) (note : Note) → slice_get notes k ≡ Some note
    → IfSome (slice_get reached k) (Describes Holds task lines note.set))

-- the notes of a pruner by reached atoms are in the lines, what it has for each is right, and
-- what the search goes by is that of the task
abbrev pub FitRelaxed : Strips → List Line → RelaxedNotes → Type 0
FitRelaxed task lines kept =
    AreHornNotes task (RelaxedExcludesFrom task) lines kept.notes
    × AreDescribed HoldsAtomsOf task lines kept.notes kept.reached
    × IfSome kept.search (AreSearchRowsOf task)

-- the same of a pruner by reached pairs
abbrev pub FitPairs : Strips → List Line → PairNotes → Type 0
FitPairs task lines kept =
    AreHornNotes task (PairsCover task) lines kept.notes
    × AreDescribed HoldsPairsOf task lines kept.notes kept.reached
    × IfSome kept.index (IsTaskIndex task)
