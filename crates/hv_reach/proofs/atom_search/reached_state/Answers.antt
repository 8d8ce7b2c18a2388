use Rattle.hv_reach.proofs.atom_search.reached_state.Goals as goal

pub returns : goal.returns
returns c = c.reached.ensures.reached
