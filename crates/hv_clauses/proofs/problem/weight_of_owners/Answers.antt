use Rattle.hv_clauses.proofs.problem.weight_of_owners.Goals as goal

pub row-row-requires : goal.row-row-requires
row-row-requires g c = (c.args.problem.now, c.requires)
