use Rattle.std.proofs.Common.{length, subst}
use Rattle.std.specs.List.{All}
use Rattle.hv_sets.specs.Query.{IsNamed}
use Rattle.hv_clauses.specs.Working.Posed.{ProblemState}
use Rattle.hv_clauses.proofs.Deciding.{named_second}
use Rattle.hv_clauses.proofs.problem.Problem.negative.Goals as goal

pub returns-clause-named : goal.returns-clause-named
returns-clause-named g c =
    let s = c.self.inside in
    subst (λ (p : ProblemState). All (λ o. IsNamed (length p.store) o.which) c.as_slice.result.now)
    c.self.view_is
    (named_second _ s.positive.now s.negative.now _ c.as_slice.ensures c.self.invariant.0.named)
