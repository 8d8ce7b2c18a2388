-- The states outside a set that clauses give, as a walk over the clauses.
use Rattle.std.specs.Prelude.{◌==◌, ◌&&◌, ◌+◌, ◌++◌, ℕ, zero, suc, max, Bool, true, false, not}
use Rattle.std.specs.Prelude.{if◌then◌else◌, List, [], ◌∷◌, map, Option, None, Some}
use Rattle.std.specs.List.{list_any}
use Rattle.std.proofs.Math.Bool.{beq}
use Rattle.hv_sets.specs.declared.literal.Literal.{Literal}
use Rattle.hv_formula.specs.Clausal.{FormulaState}

-- the literal of this atom with this sign is among these
abbrev pub names_literal : List Literal → ℕ → Bool → Bool
names_literal literals atom positive =
    list_any (λ l. (l.atom == atom) && beq l.positive positive) literals

-- the clause has a literal and its opposite, so it is true in each state
abbrev pub is_tautology : List Literal → Bool
is_tautology clause = list_any (λ l. names_literal clause l.atom (not l.positive)) clause

-- the opposite of the literal of this atom, if the clause has one
abbrev pub denial_at : ℕ → List Literal → List Literal
denial_at atom clause =
    if names_literal clause atom true then record { atom = atom; positive = false } ∷ []
    else
    (if names_literal clause atom false then record { atom = atom; positive = true } ∷ [] else [])

-- the opposites of the literals of the clause that are of atoms below this number, by rising atoms
abbrev pub denial_below : ℕ → List Literal → List Literal
denial_below zero clause = []
denial_below (suc atoms) clause = denial_below atoms clause ++ denial_at atoms clause

-- a number that each atom of the clause is below
abbrev pub bound_of : List Literal → ℕ
bound_of [] = 0
bound_of (l ∷ ls) = max (l.atom + 1) (bound_of ls)

-- the cube of the states in which a clause is false: the opposites of its literals, by rising
-- atoms, each once
abbrev pub denial : List Literal → List Literal
denial clause = denial_below (bound_of clause) clause

-- the step of the walk at a clause: its denial, and for a tautology a step without a cube
abbrev pub denial_step : List Literal → Option (List Literal)
denial_step clause = if is_tautology clause then None else Some (denial clause)

-- the steps of the walk: one for each clause, in order
abbrev pub steps_of : FormulaState → List (Option (List Literal))
steps_of formula = map denial_step formula.clauses
