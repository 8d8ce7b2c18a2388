use Rattle.hv_propagation.proofs.watched.scan_clause.Goals as goal

pub search-requires-clause-pending : goal.search-requires-clause-pending
search-requires-clause-pending c = c.in-Left.ensures

pub returns-in-Enough : goal.returns-in-Enough
returns-in-Enough c = c.in-Enough.ensures

pub returns-in-Left : goal.returns-in-Left
returns-in-Left c = c.search.ensures
