use Rattle.std.proofs.Common.{◌≡◌, ◌<◌, ℕ, true, false, get_or, length}
use Rattle.hv_task.specs.State.{has_atom, names_atom}
use Rattle.hv_reach.proofs.mask.take_out.Given as goal

abbrev pub invariant-loop-atom : goal.invariant-loop-atom
invariant-loop-atom l = record {
  size : length l.mask ≡ length l.fn.mask;
  sound : (q : ℕ) → has_atom l.mask q ≡ true
      → (has_atom l.fn.mask q ≡ true) × ((k : ℕ) → k < l.atom-index → get_or l.list k 0 ≡ q → ⊥);
  complete : (q : ℕ) → has_atom l.fn.mask q ≡ true → names_atom l.list q ≡ false
      → has_atom l.mask q ≡ true;
}
