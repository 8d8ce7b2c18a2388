use Rattle.std.proofs.Common.{◌≡◌, ◌+◌, length}
use Rattle.hv_task.specs.Strips.{atoms}
use Rattle.hv_rows.specs.Rows.{RowsBelow}
use Rattle.hv_rows.proofs.Rowed.{AreRowed}
use Rattle.hv_rows.proofs.preconditions.action_rows.Given as goal

abbrev pub invariant-loop-number : goal.invariant-loop-number
invariant-loop-number l = record {
  size : length l.rows.items ≡ atoms l.task + 1;
  below : RowsBelow (length l.task.actions) l.rows.items;
  each : AreRowed (atoms l.task) l.rows.items l.task.actions l.number;
}
