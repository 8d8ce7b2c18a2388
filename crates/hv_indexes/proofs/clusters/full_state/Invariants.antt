use Rattle.std.proofs.Common.{◌≡◌, ◌<◌, ℕ, true, length}
use Rattle.hv_task.specs.State.{has_atom}
use Rattle.hv_indexes.proofs.clusters.full_state.Given as goal

abbrev pub invariant-loop-atom : goal.invariant-loop-atom
invariant-loop-atom l = record {
  size : length l.full ≡ l.atoms;
  holds : (q : ℕ) → q < l.atom → has_atom l.full q ≡ true;
}
