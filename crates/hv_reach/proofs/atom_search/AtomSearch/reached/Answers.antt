use Rattle.hv_reach.proofs.atom_search.AtomSearch.reached.Goals as goal

pub returns-clause-reached : goal.returns-clause-reached
returns-clause-reached c = rw c.in_ok-held.ensures c.in_ok-fill.ensures.reached
