use Rattle.std.proofs.Common.{◌≡◌, ℕ, length}
use Rattle.hv_rows.specs.Rows.{RowsBelow}
use Rattle.hv_rows.proofs.entering.empty_rows.Given as goal

abbrev pub invariant-loop-place : goal.invariant-loop-place
invariant-loop-place l = record {
  size : length l.rows.items ≡ l.place;
  below : (bound : ℕ) → RowsBelow bound l.rows.items;
}
