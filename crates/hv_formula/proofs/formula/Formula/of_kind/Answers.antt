use Rattle.hv_formula.proofs.formula.Formula.of_kind.Goals as goal

pub of-requires-clause-kind : goal.of-requires-clause-kind
of-requires-clause-kind g c = c.requires.kind

pub lists_of-requires-clause-index : goal.lists_of-requires-clause-index
lists_of-requires-clause-index g c = c.in_ok-closure.ensures.index
