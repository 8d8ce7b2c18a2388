use Rattle.std.proofs.Common.{◌≡◌, length}
use Rattle.hv_bdd.specs.Jumps.{AreJumps}
use Rattle.hv_bdd.proofs.jumps.jumps_below.Given as goal

abbrev pub invariant-loop-node : goal.invariant-loop-node
invariant-loop-node l = record {
  jumps : AreJumps l.nodes l.to.items;
  size : length l.to.items ≡ l.node;
  depths : length l.depths.items ≡ l.node;
}
