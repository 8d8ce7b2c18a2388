use Rattle.std.proofs.Common.{◌≡◌}
use Rattle.hv_bdd.specs.Fronts.{AreFronts}
use Rattle.hv_bdd.proofs.node_fronts.Fronts.follow.Given as goal

abbrev pub invariant-loop-place : goal.invariant-loop-place
invariant-loop-place l =
    (l.self.reached ≡ l.place)
    × AreFronts l.side.nodes.now l.side.inside l.node l.literals l.place l.self.levels.items
