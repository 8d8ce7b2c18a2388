use Rattle.std.proofs.Common.{subst}
use Rattle.hv_clauses.specs.Working.Found.{IsMetBelow}
use Rattle.hv_clauses.specs.Working.Posed.{width}
use Rattle.hv_clauses.specs.Working.Problem.{FitsChoice}
use Rattle.hv_clauses.proofs.find.choose.Goals as goal

pub returns-in-None-clause-met : goal.returns-in-None-clause-met
returns-in-None-clause-met g c =
    let p = c.args.problem.now in
    subst (λ n. IsMetBelow c.choose_each.result n (width p) (FitsChoice p) c.choose_each.new.state)
    c.requires.cost c.choose_each.ensures.met
