use Rattle.std.proofs.Common.{◌≡◌, ◌<◌, ℕ, [], Some, get_or, length, slice_get}
use Rattle.std.specs.List.{Contains}
use Rattle.hv_task.specs.declared.action.Action.{Action}
use Rattle.hv_sets.specs.declared.literal.Literal.{Literal}
use Rattle.hv_basic.specs.Working.Framed.{CanTurn}
use Rattle.hv_basic.proofs.turned.turning_in_rows.Given as goal

abbrev pub invariant-loop-place : goal.invariant-loop-place
invariant-loop-place l = record {
  first : 0 < length l.task.actions → Contains l.found 0;
  has : (i : ℕ) → i < l.place → (number : ℕ) (action : Action) (literal : Literal)
      → slice_get l.task.actions number ≡ Some action → Contains (get_or l.clauses i []) literal
      → CanTurn l.value literal action → Contains l.found number;
  below : (k : ℕ) → Contains l.found k → k < length l.task.actions;
}
