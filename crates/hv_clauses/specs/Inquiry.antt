-- Queries that differ only in their actions.
use Rattle.std.specs.Prelude.{ℕ, List, Option}
use Rattle.hv_task.specs.Strips.{Strips}
use Rattle.hv_sets.specs.declared.operand.Operand.{Operand}
use Rattle.hv_sets.specs.declared.query.Query.{Query}
use Rattle.hv_formula.specs.Clausal.{FormulaState}

-- what an inquiry asks about: the task and the store, the operands, and the budget
pub record InquiryState : Type 0 where
  pub task : Strips
  pub store : List FormulaState
  pub positive : List Operand
  pub negative : List Operand
  pub budget : ℕ

-- the query with these operands and this action
abbrev pub asked_with : List Operand → List Operand → Option ℕ → Query
asked_with positive negative action = record {
  positive = positive;
  negative = negative;
  action = action;
}
