use Rattle.std.proofs.Common.{◌≡◌, ◌<◌, ◌≤◌, ◌-◌, ◌+◌}
use Rattle.hv_bdd.specs.Working.Chains.{node_slot_at, node_slot_of}
use Rattle.hv_bdd.specs.Working.Chains.{AreAllBelow}
use Rattle.hv_bdd.proofs.chains.seek_from.Given as goal

abbrev pub invariant-loop-end : goal.invariant-loop-end
invariant-loop-end l = record {
  upto : l.end + l.passed ≤ l.start;
  all : AreAllBelow l.nodes l.node l.end;
  slot : 0 < l.end → node_slot_at l.nodes l.fn.factor l.fn.slots (l.end - 1)
      ≡ node_slot_of l.fn.factor l.fn.slots l.node;
}

abbrev pub decreases-loop-end : goal.decreases-loop-end
decreases-loop-end l = l.end
