use Rattle.std.proofs.Common.{◌≡◌, length}
use Rattle.hv_bdd.specs.Working.Excluding.{AreMasks}
use Rattle.hv_bdd.proofs.node_exclusions.sweep.Given as goal

abbrev pub invariant-loop-lesser : goal.invariant-loop-lesser
invariant-loop-lesser l =
    (length l.masks.items ≡ l.lesser)
    × AreMasks l.side.nodes.now l.side.inside l.batch l.masks.items
