use Rattle.std.proofs.Common.{◌≡◌, ◌<◌, ℕ, Some, length, slice_get}
use Rattle.std.specs.List.{Contains}
use Rattle.hv_task.specs.Strips.{atoms}
use Rattle.hv_task.specs.declared.action.Action.{Action}
use Rattle.hv_rows.specs.Rows.{IsInRow}
use Rattle.hv_basic.specs.ChangeRows.{changed_to}
use Rattle.hv_basic.proofs.change_rows.rows_to.Given as goal

abbrev pub invariant-loop-number : goal.invariant-loop-number
invariant-loop-number l = record {
  size : length l.rows.items ≡ atoms l.task;
  each : (k : ℕ) (action : Action) (atom : ℕ) → k < l.number
      → slice_get l.task.actions k ≡ Some action → Contains (changed_to l.adds action) atom
      → IsInRow l.rows.items atom k;
  under : (k : ℕ) (action : Action) (atom : ℕ) → k < l.number
      → slice_get l.task.actions k ≡ Some action → Contains (changed_to l.adds action) atom
      → atom < atoms l.task;
}
