use Rattle.hv_reach.proofs.pairs.PairSpace.reason_from.Goals as goal

pub returns-clause-some : goal.returns-clause-some
returns-clause-some c = c.reason.ensures.some

pub returns-clause-reached : goal.returns-clause-reached
returns-clause-reached c = c.reason.ensures.reached
