use Rattle.std.proofs.Common.{ap, subst}
use Rattle.hv_propagation.specs.Clauses.{AreClauses}
use Rattle.hv_formula.specs.Clausal.{FormulaState}
use Rattle.hv_formula.proofs.formula.Formula.bare.Goals as goal

pub returns-clause-index : goal.returns-clause-index
returns-clause-index g c = c.self.invariant.2.index

pub returns-clause-below : goal.returns-clause-below
returns-clause-below g c =
    let s = c.self.inside in
    subst (λ n. AreClauses n s.clauses) (ap (λ (f : FormulaState). f.atoms) c.self.view_is)
    c.self.invariant.1.below
