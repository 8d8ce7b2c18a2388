use Rattle.std.proofs.Common.{◌≡◌, ◌≤◌, [], length, take}
use Rattle.hv_bdd.specs.Paths.{left_of}
use Rattle.hv_bdd.proofs.walk.turn.Given as goal

abbrev pub invariant-loop-count : goal.invariant-loop-count
invariant-loop-count l = record {
  same : l.path.items ≡ l.fn.path.items;
  within : l.count ≤ length l.path.items;
  left : left_of l.nodes l.end (take l.count l.path.items) []
      ≡ left_of l.nodes l.end l.fn.path.items [];
}

abbrev pub decreases-loop-count : goal.decreases-loop-count
decreases-loop-count l = l.count
