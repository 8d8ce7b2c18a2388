use Rattle.hv_propagation.proofs.constraint.BareClausesConstraint.visit.Goals as goal

pub visit-requires-clause-clauses : goal.visit-requires-clause-clauses
visit-requires-clause-clauses c = c.requires.over.0

pub visit-requires-clause-index : goal.visit-requires-clause-index
visit-requires-clause-index c = c.requires.over.1

pub visit-requires-clause-from : goal.visit-requires-clause-from
visit-requires-clause-from c = c.requires.from
