use Rattle.std.proofs.Common.{◌≡◌, ◌<◌, ◌+◌, ℕ, length, slice_get, Some}
use Rattle.std.specs.List.{All}
use Rattle.hv_task.specs.declared.action.Action.{Action}
use Rattle.hv_task.specs.Strips.{atoms}
use Rattle.hv_rows.specs.Rows.{IsInRow, RowsBelow}
use Rattle.hv_reach.proofs.index.index.Given as goal

abbrev pub invariant-loop-number : goal.invariant-loop-number
invariant-loop-number l = record {
  size : length l.rows.items ≡ atoms l.task + 1;
  below : RowsBelow (length l.task.actions) l.rows.items;
  has : (k : ℕ) (a : Action) → k < l.number → slice_get l.task.actions k ≡ Some a
      → All (λ p. IsInRow l.rows.items p k) a.pre;
  past : (k : ℕ) (a : Action) → k < l.number → slice_get l.task.actions k ≡ Some a
      → length a.pre ≡ 0 → IsInRow l.rows.items (atoms l.task) k;
}
