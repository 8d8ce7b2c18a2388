-- Stores of formulas, as the list of the formulas, by number.
use Rattle.std.specs.Prelude.{ℕ, Bool, List, length, ◌≡◌, [], Option, None, Some, slice_get}
use Rattle.std.specs.List.{All}
use Rattle.hv_sets.specs.declared.literal.Literal.{Literal}
use Rattle.hv_sets.specs.Truth.{in_clauses}
use Rattle.hv_formula.specs.Clausal.{FormulaState}

-- A store is given by its formulas: the list of the clauses of each of its sets, by number.

-- the test of each set of the store, by number
abbrev pub tests_of : (ℕ → List (List Literal)) → ℕ → List Bool → Bool
tests_of formulas number state = in_clauses (formulas number) state

-- how many clauses each set of the store has, by number
abbrev pub sizes_of : (ℕ → List (List Literal)) → ℕ → ℕ
sizes_of formulas number = length (formulas number)

-- the clauses of a formula, if there is one
abbrev pub clauses_found : Option FormulaState → List (List Literal)
clauses_found None = []
clauses_found (Some formula) = formula.clauses

-- the clauses of the formula of this number
abbrev pub formula_at : List FormulaState → ℕ → List (List Literal)
formula_at formulas number = clauses_found (slice_get formulas number)

-- the formulas are over the states of a task with so many atoms
abbrev pub AreOver : List FormulaState → ℕ → Type 0
AreOver formulas atoms = All (λ formula. formula.atoms ≡ atoms) formulas
