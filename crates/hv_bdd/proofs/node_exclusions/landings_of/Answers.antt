use Rattle.std.proofs.Common.{[], ap, arith, length}
use Rattle.hv_bdd.proofs.Along.{fronts_first}
use Rattle.hv_bdd.proofs.node_exclusions.landings_of.Goals as goal

pub land_all-requires-clause-fronts : goal.land_all-requires-clause-fronts
land_all-requires-clause-fronts c =
    let l = c.in_ok-fronts.ensures.level in
    fronts_first c.args.side.now.nodes.now c.args.side.now.inside c.args.node [] l.0
    c.in_ok-fronts.fronts.levels.items c.requires l.1 l.2 l.3

pub land_all-requires-clause-landings : goal.land_all-requires-clause-landings
land_all-requires-clause-landings c = λ k d less.
    let size = ap length c.new-landings.ensures.items in absurd (omega arith)
