use Rattle.std.proofs.Common.{◌-◌, ◌≤◌, length}
use Rattle.hv_task.specs.Atoms.{Lists}
use Rattle.hv_task.specs.State.{has_atom}
use Rattle.hv_task.proofs.state.State.list_atoms.Given as goal

abbrev pub invariant-loop-atom : goal.invariant-loop-atom
invariant-loop-atom l = record {
  so_far : Lists (has_atom l.self) l.from l.held.items;
  upto : l.from ≤ length l.self;
}

abbrev pub decreases-loop-atom : goal.decreases-loop-atom
decreases-loop-atom l = length l.self - l.from
