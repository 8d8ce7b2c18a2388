use Rattle.std.proofs.Common.{ap, subst}
use Rattle.hv_formula.specs.Clausal.{FormulaState}
use Rattle.hv_indexes.specs.Occurrences.{IsIndexOf}
use Rattle.hv_formula.proofs.formula.Formula.occurs.Goals as goal

pub returns : goal.returns
returns g c =
    let s = c.self.inside in
    subst (λ clauses. IsIndexOf clauses s.closure.occurs)
    (ap (λ (f : FormulaState). f.clauses) c.self.view_is) c.self.invariant.2.index
