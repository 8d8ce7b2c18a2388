use Rattle.std.proofs.Common.{sym, subst}
use Rattle.hv_formula.specs.Kinded.{CompletesClauses}
use Rattle.hv_propagation.specs.Completion.{Completes}
use Rattle.hv_clauses.specs.Working.Posed.{InEach, ProblemState, width}
use Rattle.hv_clauses.specs.Working.Problem.{AreEachSettled}
use Rattle.hv_clauses.proofs.Deciding.{positive_completes}
use Rattle.hv_clauses.proofs.problem.Problem.completion.Goals as goal

pub returns-clause-completes : goal.returns-clause-completes
returns-clause-completes g c =
    let how = c.completion.result in
    let s = c.self.inside in
    subst (λ (p : ProblemState). Completes how (InEach p) (AreEachSettled p) (width p))
    c.self.view_is
    (positive_completes (record {
      task = s.task.now;
      store = s.store.now;
      query = record { positive = s.positive.now; negative = s.negative.now; action = s.action };
      effect = s.effect;
    }) how g.K.ClauseKind.is_of
    (subst (λ x. CompletesClauses x g.K.ClauseKind.is_of) (sym c.completion.ensures.how)
    g.met.K.ClauseKind.completes)
    g.met.K.ClauseKind.short_are_of c.completion.ensures.kinded c.self.invariant.0)
