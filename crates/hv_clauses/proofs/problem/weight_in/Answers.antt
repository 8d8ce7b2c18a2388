use Rattle.hv_clauses.proofs.problem.weight_in.Goals as goal

pub weight-requires : goal.weight-requires
weight-requires g c = (c.set.result.now.clauses, c.occurs.ensures)
