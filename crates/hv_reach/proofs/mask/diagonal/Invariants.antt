use Rattle.std.proofs.Common.{◌≡◌, ◌<◌, ℕ, length}
use Rattle.hv_task.specs.State.{has_atom}
use Rattle.hv_reach.specs.Reached.{has_pair}
use Rattle.hv_reach.proofs.mask.diagonal.Given as goal

abbrev pub invariant-loop-atom : goal.invariant-loop-atom
invariant-loop-atom l = record {
  size : length l.mask ≡ l.atoms;
  done : (k : ℕ) → k < l.atom → has_atom l.mask k ≡ has_pair l.rows.items k k;
}
