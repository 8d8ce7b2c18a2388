use Rattle.std.proofs.Common.{◌<◌, ℕ, [], get_or, length}
use Rattle.std.specs.List.{Contains}
use Rattle.hv_task.specs.Strips.{atoms}
use Rattle.hv_rows.specs.Rows.{IsInRow}
use Rattle.hv_basic.proofs.candidates.applicable_by.Given as goal

abbrev pub invariant-loop-place : goal.invariant-loop-place
invariant-loop-place l = record {
  first : 0 < length l.task.actions → Contains l.found 0;
  past : (k : ℕ) → IsInRow l.rows (atoms l.task) k → k < length l.task.actions
      → Contains l.found k;
  has : (i : ℕ) → i < l.place → (p k : ℕ) → Contains (get_or l.states i []) p → IsInRow l.rows p k
      → k < length l.task.actions → Contains l.found k;
  below : (k : ℕ) → Contains l.found k → k < length l.task.actions;
}
