-- Conjunctions of one or two literals, and the clauses that deny them.
use Rattle.std.specs.Prelude.{ℕ, Bool, true, false, List, [], ◌∷◌, ◌++◌, ◌+◌, ◌-◌, ◌&&◌, map}
use Rattle.std.specs.Prelude.{nat_lt, not, if◌then◌else◌}
use Rattle.std.specs.List.{flat_map, list_any, range_with_len}
use Rattle.hv_task.specs.State.{names_atom}
use Rattle.hv_sets.specs.Cubes.{opposite}
use Rattle.hv_sets.specs.declared.literal.Literal.{Literal}

-- A conjunction is a list of its literals.

-- the literal of an atom
abbrev pub affirms : ℕ → Literal
affirms p = record { atom = p; positive = true }

-- the literal that denies an atom
abbrev pub denies : ℕ → Literal
denies p = record { atom = p; positive = false }

-- the literals are one or two over different atoms below the bound, of which the lesser is first
abbrev pub is_short : ℕ → List Literal → Bool
is_short bound [] = false
is_short bound (l ∷ []) = nat_lt l.atom bound
is_short bound (l ∷ m ∷ []) = nat_lt l.atom m.atom && nat_lt m.atom bound
is_short bound (l ∷ m ∷ k ∷ more) = false

-- one of the literals denies a goal atom
abbrev pub denies_one : List ℕ → List Literal → Bool
denies_one goal literals = list_any (λ l. not l.positive && names_atom goal l.atom) literals

-- the conjunctions over two atoms that don't hold both
abbrev pub over_two : ℕ → ℕ → List (List Literal)
over_two p q =
    (denies p ∷ denies q ∷ []) ∷ (denies p ∷ affirms q ∷ []) ∷ (affirms p ∷ denies q ∷ []) ∷ []

-- the same over an atom and each greater one, rising
abbrev pub over_greater : ℕ → ℕ → List (List Literal)
over_greater atoms p = flat_map (over_two p) (range_with_len (p + 1) (atoms - (p + 1)))

-- the conjunction that denies an atom
abbrev pub over_one : ℕ → List (List Literal)
over_one p = (denies p ∷ []) ∷ []

-- the conjunctions of one or two literals, with a negated one, in order: those of one literal by
-- rising atom, and then those over each two atoms
abbrev pub conjunctions : ℕ → List (List Literal)
conjunctions atoms =
    flat_map over_one (range_with_len 0 atoms)
    ++ flat_map (over_greater atoms) (range_with_len 0 atoms)

-- the clause that denies a conjunction: its literals are the opposite ones
abbrev pub denying_clause : List Literal → List Literal
denying_clause literals = map opposite literals

-- the clause that denies the conjunction, where that is in the set
abbrev pub denial_in : (List Literal → Bool) → List Literal → List (List Literal)
denial_in set literals = if set literals then denying_clause literals ∷ [] else []

-- the clauses that deny those of these conjunctions that are in the set
abbrev pub denials_of : (List Literal → Bool) → List (List Literal) → List (List Literal)
denials_of set listed = flat_map (denial_in set) listed

-- the clauses that deny the conjunctions of a set, in order
abbrev pub denials : (List Literal → Bool) → ℕ → List (List Literal)
denials set atoms = denials_of set (conjunctions atoms)
