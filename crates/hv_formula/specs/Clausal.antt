-- Sets of states given by clauses.
use Rattle.std.specs.Prelude.{ℕ, Bool, List}
use Rattle.hv_sets.specs.declared.literal.Literal.{Literal}
use Rattle.hv_sets.specs.Truth.{in_clauses}

-- what a set is that clauses give: how many atoms the task has, and the clauses
pub record FormulaState : Type 0 where
  pub atoms : ℕ
  pub clauses : List (List Literal)

-- the state is in the set: each clause is true in it
abbrev pub in_formula : FormulaState → List Bool → Bool
in_formula formula state = in_clauses formula.clauses state
