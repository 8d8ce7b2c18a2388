use Rattle.std.proofs.Common.{[]}
use Rattle.hv_bdd.specs.Fronts.{AreFronts}
use Rattle.hv_bdd.specs.Working.Excluding.{AreLandings}
use Rattle.hv_bdd.proofs.node_exclusions.land_all.Given as goal

abbrev pub invariant-loop-number : goal.invariant-loop-number
invariant-loop-number l =
    AreFronts l.side.nodes.now l.side.inside l.node [] 0 l.fronts.levels.items
    × AreLandings l.side.nodes.now l.side.inside l.node l.landings.items
