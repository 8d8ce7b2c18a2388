use Rattle.hv_propagation.proofs.constraint.BareClausesConstraint.weight.Goals as goal

pub weight-requires : goal.weight-requires
weight-requires c = (c.args.self.now.clauses.now, c.requires.1.1)
