use Rattle.std.proofs.Common.{subst}
use Rattle.std.specs.List.{All}
use Rattle.hv_formula.specs.Working.Kinded.{IsKinded}
use Rattle.hv_clauses.proofs.formulas.Formulas.completion.Goals as goal

pub returns-clause-kinded : goal.returns-clause-kinded
returns-clause-kinded g c = subst (All (IsKinded g.K.ClauseKind.is_of)) c.self.view_is
    c.self.invariant
