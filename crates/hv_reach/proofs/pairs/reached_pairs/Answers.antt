use Rattle.hv_reach.proofs.pairs.reached_pairs.Goals as goal

pub returns-clause-atoms : goal.returns-clause-atoms
returns-clause-atoms c = c.reached.ensures.atoms

pub returns-clause-reached : goal.returns-clause-reached
returns-clause-reached c = c.reached.ensures.reached
