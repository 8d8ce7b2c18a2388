use Rattle.hv_bdd.proofs.Fronted.{first_walk}
use Rattle.hv_bdd.proofs.path_walk.PathWalk.new.Goals as goal

pub returns-clause-stands : goal.returns-clause-stands
returns-clause-stands c =
    first_walk c.args.nodes.now c.args.root c.args.end c.new.result c.new-2.result.items
    c.requires.root c.requires.end c.new.ensures c.new-2.ensures.items
