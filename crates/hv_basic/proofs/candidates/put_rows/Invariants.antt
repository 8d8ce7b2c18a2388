use Rattle.std.proofs.Common.{◌<◌, ◌⊎◌, ℕ, get_or}
use Rattle.std.specs.List.{Contains}
use Rattle.hv_rows.specs.Rows.{IsInRow}
use Rattle.hv_basic.proofs.candidates.put_rows.Given as goal

abbrev pub invariant-loop-atom : goal.invariant-loop-atom
invariant-loop-atom l = record {
  kept : (k : ℕ) → Contains l.fn.found k → Contains l.found k;
  has : (j : ℕ) → j < l.atom-index → (k : ℕ) → IsInRow l.rows (get_or l.atoms j 0) k
      → k < l.actions → Contains l.found k;
  below : (k : ℕ) → Contains l.found k → Contains l.fn.found k ⊎ (k < l.actions);
}
