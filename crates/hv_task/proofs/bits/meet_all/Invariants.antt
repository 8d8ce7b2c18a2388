use Rattle.std.proofs.Common.{◌≡◌, ◌<◌, ◌≤◌, ℕ, length, get_or}
use Rattle.std.proofs.Common.{bit_and}
use Rattle.hv_task.proofs.bits.meet_all.Given as goal

abbrev pub invariant-loop-at : goal.invariant-loop-at
invariant-loop-at l = record {
  size : length l.words.items ≡ length l.fn.words.items;
  done : (k : ℕ) → k < l.at → get_or l.words.items k 0
      ≡ bit_and (get_or l.fn.words.items k 0) (get_or l.other.items k 0);
  left : (k : ℕ) → l.at ≤ k → get_or l.words.items k 0 ≡ get_or l.fn.words.items k 0;
}
