use Rattle.std.proofs.Common.{◌≡◌, ◌+◌, ◌<◌, ℕ, false, not, length, get_or}
use Rattle.hv_trap.proofs.quick.fill.Given as goal

abbrev pub invariant-loop-atom : goal.invariant-loop-atom
invariant-loop-atom l = record {
  size : length l.truths ≡ 256;
  done : (p : ℕ) → p < l.atom → (get_or l.truths p false ≡ not (get_or l.state p false))
      × (get_or l.truths (p + 64) false ≡ get_or l.state p false);
}
