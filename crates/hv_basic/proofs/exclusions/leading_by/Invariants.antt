use Rattle.std.proofs.Common.{◌≡◌, ◌<◌, ◌⊎◌, ℕ, Some, length, slice_get}
use Rattle.std.specs.List.{Contains}
use Rattle.hv_task.specs.Strips.{atoms}
use Rattle.hv_task.specs.declared.action.Action.{Action}
use Rattle.hv_basic.specs.Working.Excluded.{KeepsFormula}
use Rattle.hv_basic.proofs.exclusions.leading_by.Given as goal

abbrev pub invariant-loop-number : goal.invariant-loop-number
invariant-loop-number l = record {
  size : length l.able ≡ atoms l.task;
  first : 0 < length l.task.actions → Contains l.found 0;
  each : (k : ℕ) (action : Action) → k < l.number → slice_get l.task.actions k ≡ Some action
      → KeepsFormula (atoms l.task) l.clauses l.into action ⊎ Contains l.found k;
  below : (k : ℕ) → Contains l.found k → k < length l.task.actions;
}
