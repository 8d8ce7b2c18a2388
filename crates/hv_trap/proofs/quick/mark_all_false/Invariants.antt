use Rattle.std.proofs.Common.{◌≡◌, ◌<◌, ◌≤◌, ◌&&◌, ℕ, false, length, get_or}
use Rattle.hv_trap.specs.Working.Quick.{is_true_by}
use Rattle.hv_trap.specs.declared.quick.LiteralPair.{LiteralPair}
use Rattle.hv_trap.proofs.quick.mark_all_false.Given as goal

abbrev pub invariant-loop-place : goal.invariant-loop-place
invariant-loop-place l = record {
  size : length l.left.items ≡ length l.fn.left.items;
  done : (k : ℕ) → k < l.place → (other : LiteralPair) → get_or l.left.items k false
      ≡ (get_or l.fn.left.items k false && is_true_by l.truths (get_or l.pairs k other));
  rest : (k : ℕ) → l.place ≤ k → get_or l.left.items k false ≡ get_or l.fn.left.items k false;
}
