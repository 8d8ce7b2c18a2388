use Rattle.std.proofs.Common.{◌≡◌, ◌<◌, ℕ, get_or, length}
use Rattle.hv_reach.proofs.passed.put_back_all.Given as goal

-- what is noted so far is 0, and what is 0 stays so
abbrev pub invariant-loop-number : goal.invariant-loop-number
invariant-loop-number l = record {
  size : length l.places.items ≡ length l.fn.places.items;
  stays : (k : ℕ) → get_or l.fn.places.items k 0 ≡ 0 → get_or l.places.items k 0 ≡ 0;
  gone : (i : ℕ) → i < l.number-index → get_or l.places.items (get_or l.touched i 0) 0 ≡ 0;
}
