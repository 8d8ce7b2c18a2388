use Rattle.std.proofs.Common.{subst}
use Rattle.hv_propagation.specs.Forced.{AreForced}
use Rattle.hv_formula.specs.Clausal.{FormulaState}
use Rattle.hv_formula.proofs.Forced.{lone_found}
use Rattle.hv_formula.proofs.formula.Formula.forced.Goals as goal

pub returns-then-self : goal.returns-then-self
returns-then-self g c =
    let s = c.self.inside in
    subst (λ (f : FormulaState). AreForced f.atoms f.clauses c.get.result.now) c.self.view_is
    (lone_found s.atoms s.clauses c.get.result.now c.self.invariant.1.below
    (c.self.invariant.2.alone c.if-self.true) c.get.ensures)
