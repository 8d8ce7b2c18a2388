use Rattle.std.proofs.Common.{◌≡◌, ◌<◌}
use Rattle.hv_bdd.specs.Nodes.{in_node, node_count}
use Rattle.hv_bdd.proofs.jumps.walk.Given as goal

abbrev pub invariant-loop-at : goal.invariant-loop-at
invariant-loop-at l = record {
  within : l.at < node_count l.nodes;
  same : in_node l.nodes l.at l.state ≡ in_node l.nodes l.fn.node l.state;
}

abbrev pub decreases-loop-at : goal.decreases-loop-at
decreases-loop-at l = l.at
