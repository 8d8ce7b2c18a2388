use Rattle.hv_task.proofs.Rising.{place_from_search}
use Rattle.hv_propagation.proofs.effect.place_of.Goals as goal

pub returns : goal.returns
returns c = place_from_search c.args.atoms.now c.args.atom c.binary_search.result c.requires
    c.binary_search.ensures.position
