use Rattle.std.proofs.Common.{◌≡◌, ℕ, ◌<◌, ◌≤◌, length, get_or}
use Rattle.hv_indexes.specs.Rows.{place_of_code}
use Rattle.hv_indexes.proofs.rows.strip.Given as goal

abbrev pub invariant-loop-index : goal.invariant-loop-index
invariant-loop-index l = record {
  size : length l.codes.items ≡ length l.fn.codes.items;
  before : (k : ℕ) → k < l.index
      → get_or l.codes.items k 0 ≡ place_of_code (get_or l.fn.codes.items k 0);
  after : (k : ℕ) → l.index ≤ k → get_or l.codes.items k 0 ≡ get_or l.fn.codes.items k 0;
}
