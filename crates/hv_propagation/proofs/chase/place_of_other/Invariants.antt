use Rattle.std.proofs.Common.{◌≤◌, ◌-◌, length}
use Rattle.hv_propagation.specs.Trail.{marks_of}
use Rattle.hv_propagation.specs.Working.Chase.{AreSettledBetween}
use Rattle.hv_propagation.proofs.chase.place_of_other.Given as goal

abbrev pub invariant-loop-index : goal.invariant-loop-index
invariant-loop-index l = record {
  after : l.from ≤ l.index;
  settled : AreSettledBetween l.effect (marks_of l.marks) l.standing l.from l.index;
}

abbrev pub decreases-loop-index : goal.decreases-loop-index
decreases-loop-index l = length l.standing.entries.now - l.index
