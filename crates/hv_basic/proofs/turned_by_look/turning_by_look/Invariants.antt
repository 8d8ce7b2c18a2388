use Rattle.std.proofs.Common.{◌≡◌, ◌<◌, ℕ, Some, length, slice_get}
use Rattle.std.specs.List.{Contains}
use Rattle.hv_task.specs.declared.action.Action.{Action}
use Rattle.hv_basic.specs.Working.Framed.{ChangesOne}
use Rattle.hv_basic.proofs.turned_by_look.turning_by_look.Given as goal

abbrev pub invariant-loop-number : goal.invariant-loop-number
invariant-loop-number l = record {
  first : 0 < length l.task.actions → Contains l.found 0;
  has : (k : ℕ) (action : Action) → k < l.number → slice_get l.task.actions k ≡ Some action
      → ChangesOne l.added.items l.deleted.items action → Contains l.found k;
  below : (k : ℕ) → Contains l.found k → k < length l.task.actions;
}
