use Rattle.std.proofs.Common.{◌≡◌, ◌<◌, ◌≤◌, ◌==◌, ◌&&◌, ◌||◌, not, ℕ, length, get_or}
use Rattle.std.specs.Int.{bit_at}
use Rattle.hv_task.proofs.bits.turn_all.Given as goal

abbrev pub invariant-loop-at : goal.invariant-loop-at
invariant-loop-at l = record {
  size : length l.words.items ≡ length l.fn.words.items;
  done : (k : ℕ) → k < l.at → (i : ℕ) → i < 64 → (bit_at (get_or l.words.items k 0) i == 1)
      ≡ ((bit_at (get_or l.put.items k 0) i == 1)
      || ((bit_at (get_or l.fn.words.items k 0) i == 1)
      && not (bit_at (get_or l.out.items k 0) i == 1)));
  left : (k : ℕ) → l.at ≤ k → get_or l.words.items k 0 ≡ get_or l.fn.words.items k 0;
}
