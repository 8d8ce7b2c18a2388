use Rattle.std.proofs.Common.{◌≡◌, ◌<◌, ℕ, length, true}
use Rattle.hv_task.specs.State.{has_atom}
use Rattle.hv_basic.proofs.companions.all_atoms.Given as goal

abbrev pub invariant-loop-atom : goal.invariant-loop-atom
invariant-loop-atom l = record {
  size : length l.all ≡ l.atoms;
  each : (p : ℕ) → p < l.atom → has_atom l.all p ≡ true;
}
