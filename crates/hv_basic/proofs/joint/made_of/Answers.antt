use Rattle.std.proofs.Common.{ap, subst, sym}
use Rattle.hv_formula.specs.Clausal.{FormulaState}
use Rattle.hv_basic.specs.Cases.{lines_in}
use Rattle.hv_basic.specs.Sharing.{AreJointClauses}
use Rattle.hv_basic.proofs.joint.made_of.Goals as goal

pub returns : goal.returns
returns g c =
    subst (AreJointClauses (lines_in c.args.case.now) c.args.asked.now)
    (sym (ap (λ (f : FormulaState). f.clauses) c.in_ok-formula.ensures))
    c.in_ok-clauses.ensures.clauses
