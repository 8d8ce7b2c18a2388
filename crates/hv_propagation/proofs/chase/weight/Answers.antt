use Rattle.hv_propagation.proofs.chase.weight.Goals as goal

pub standing-requires : goal.standing-requires
standing-requires c = c.requires
