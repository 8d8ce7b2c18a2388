-- When a state is in a formula: a list of clauses, or a list of states; and when it is in a cube.
use Rattle.std.specs.Prelude.{ℕ, Bool, List, cond, map, not}
use Rattle.std.specs.List.{Contains, list_all, list_any}
use Rattle.std.specs.Cmp.Lexicographic.{pointwise}
use Rattle.std.proofs.Math.Bool.{beq}
use Rattle.hv_task.specs.State.{has_atom, state_of}
use Rattle.hv_sets.specs.declared.literal.Literal.{Literal}

-- the literal is true in the state: it holds the atom, or for a negated one it doesn't
abbrev pub in_literal : Literal → List Bool → Bool
in_literal literal state = cond literal.positive (has_atom state literal.atom)
    (not (has_atom state literal.atom))

-- the clause has a literal that is true in the state
abbrev pub in_clause : List Literal → List Bool → Bool
in_clause clause state = list_any (λ l. in_literal l state) clause

-- each clause is true in the state
abbrev pub in_clauses : List (List Literal) → List Bool → Bool
in_clauses clauses state = list_all (λ c. in_clause c state) clauses

-- whether the two states are one, flag by flag
abbrev pub is_same : List Bool → List Bool → Bool
is_same left right = pointwise beq left right

-- the state is one of the listed ones, in a task with so many atoms
abbrev pub InStates : ℕ → List (List ℕ) → List Bool → Type 0
InStates atoms states state = Contains (map (state_of atoms) states) state

-- the same as a test: whether some listed state is this one
abbrev pub in_states : ℕ → List (List ℕ) → List Bool → Bool
in_states atoms states state = list_any (λ held. is_same (state_of atoms held) state) states

-- a cube is the set of the states in which each of its literals is true
abbrev pub in_cube : List Literal → List Bool → Bool
in_cube cube state = list_all (λ l. in_literal l state) cube
