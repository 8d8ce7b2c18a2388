use Rattle.std.proofs.Common.{◌≡◌, ◌<◌, ℕ, false, length}
use Rattle.std.specs.List.{Contains}
use Rattle.hv_rows.specs.Rows.{IsInRow}
use Rattle.hv_basic.specs.Working.Flags.{flag_or_false}
use Rattle.hv_basic.proofs.denied.open_in_rows.Given as goal

abbrev pub invariant-loop-place : goal.invariant-loop-place
invariant-loop-place l = record {
  first : 0 < length l.task.actions → Contains l.found 0;
  has : (p : ℕ) → p < l.place → flag_or_false l.flags p ≡ false → (k : ℕ) → IsInRow l.rows p k
      → k < length l.task.actions → Contains l.found k;
  below : (k : ℕ) → Contains l.found k → k < length l.task.actions;
}
