use Rattle.std.proofs.Common.{◌≡◌, ◌<◌, ℕ, get_or, length}
use Rattle.hv_rows.specs.Rows.{IsInRow}
use Rattle.hv_basic.proofs.change_rows.enter_all.Given as goal

abbrev pub invariant-loop-atom : goal.invariant-loop-atom
invariant-loop-atom l = record {
  size : length l.rows.items ≡ length l.fn.rows.items;
  keeps : (p k : ℕ) → IsInRow l.fn.rows.items p k → IsInRow l.rows.items p k;
  has : (j : ℕ) → j < l.atom-index → IsInRow l.rows.items (get_or l.atoms j 0) l.number;
}
