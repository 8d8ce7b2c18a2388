use Rattle.std.proofs.Common.{◌<◌, ℕ, get_or}
use Rattle.std.specs.List.{Contains}
use Rattle.hv_basic.proofs.long_lists.listed_among.Given as goal

abbrev pub invariant-loop-number : goal.invariant-loop-number
invariant-loop-number l = record {
  some : (k : ℕ) → Contains l.listed k → k < l.actions → (j : ℕ) × Contains l.found j;
  has : (j : ℕ) → j < l.number-index → Contains l.listed (get_or l.numbers j 0)
      → get_or l.numbers j 0 < l.actions → Contains l.found (get_or l.numbers j 0);
  only : (k : ℕ) → Contains l.found k → Contains l.listed k × (k < l.actions);
}
