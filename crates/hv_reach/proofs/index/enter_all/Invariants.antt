use Rattle.std.proofs.Common.{◌≡◌, ◌<◌, ℕ, length, get_or}
use Rattle.hv_rows.specs.Rows.{IsInRow, RowsBelow}
use Rattle.hv_reach.proofs.index.enter_all.Given as goal

abbrev pub invariant-loop-place : goal.invariant-loop-place
invariant-loop-place l = record {
  size : length l.rows.items ≡ length l.fn.rows.items;
  keeps : (p k : ℕ) → IsInRow l.fn.rows.items p k → IsInRow l.rows.items p k;
  has : (i : ℕ) → i < l.place-index → IsInRow l.rows.items (get_or l.places i 0) l.number;
  below : (bound : ℕ) → l.number < bound → RowsBelow bound l.fn.rows.items
      → RowsBelow bound l.rows.items;
}
