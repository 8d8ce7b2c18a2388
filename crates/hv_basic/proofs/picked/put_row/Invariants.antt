use Rattle.std.proofs.Common.{◌<◌, ◌⊎◌, ℕ, get_or}
use Rattle.std.specs.List.{Contains}
use Rattle.hv_basic.proofs.picked.put_row.Given as goal

abbrev pub invariant-loop-number : goal.invariant-loop-number
invariant-loop-number l = record {
  kept : (k : ℕ) → Contains l.fn.found k → Contains l.found k;
  has : (j : ℕ) → j < l.number-index → get_or l.row j 0 < l.actions
      → Contains l.found (get_or l.row j 0);
  below : (k : ℕ) → Contains l.found k → Contains l.fn.found k ⊎ (k < l.actions);
}
