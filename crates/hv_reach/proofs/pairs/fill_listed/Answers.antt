use Rattle.hv_reach.proofs.pairs.fill_listed.Goals as goal

pub returns-clause-space : goal.returns-clause-space
returns-clause-space c = c.fill.ensures.space

pub returns-clause-table : goal.returns-clause-table
returns-clause-table c = c.fill.ensures.table

pub returns-clause-reached : goal.returns-clause-reached
returns-clause-reached c = c.fill.ensures.reached
