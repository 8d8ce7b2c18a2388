use Rattle.std.proofs.Common.{Option, subst}
use Rattle.std.specs.Option.{IfSome}
use Rattle.hv_formula.specs.Clausal.{FormulaState}
use Rattle.hv_lines.specs.Shapes.{IsOfFamily}
use Rattle.hv_lines.specs.declared.formula_family.FormulaFamily.{FormulaFamily}
use Rattle.hv_basic.specs.Cases.{lines_in}
use Rattle.hv_basic.specs.Sharing.{AreJointClauses}
use Rattle.hv_basic.proofs.JointClauses.{dual_stored, horn_stored, two_stored}
use Rattle.hv_basic.proofs.joint.joint_of.Goals as goal

pub made_of-requires : goal.made_of-requires
made_of-requires c = λ a has.
    horn_stored c.args.case.now.task.now (lines_in c.args.case.now) c.args.case.now.store.now
    c.args.case.now.stored c.expr_count-count.ensures.table a.0 c.horns.result.now
    c.horns.ensures
    (subst (λ (f : FormulaFamily). IsOfFamily (lines_in c.args.case.now) f a.0) c.in-Horn.is
    (c.requires a has))

pub made_of-requires-in-Dual : goal.made_of-requires-in-Dual
made_of-requires-in-Dual c = λ a has.
    dual_stored c.args.case.now.task.now (lines_in c.args.case.now) c.args.case.now.store.now
    c.args.case.now.stored c.expr_count-count.ensures.table a.0 c.duals.result.now
    c.duals.ensures
    (subst (λ (f : FormulaFamily). IsOfFamily (lines_in c.args.case.now) f a.0) c.in-Dual.is
    (c.requires a has))

pub made_of-requires-in-Two : goal.made_of-requires-in-Two
made_of-requires-in-Two c = λ a has.
    two_stored c.args.case.now.task.now (lines_in c.args.case.now) c.args.case.now.store.now
    c.args.case.now.stored c.expr_count-count.ensures.table a.0 c.twos.result.now
    c.twos.ensures
    (subst (λ (f : FormulaFamily). IsOfFamily (lines_in c.args.case.now) f a.0) c.in-Two.is
    (c.requires a has))

pub returns-in-Some : goal.returns-in-Some
returns-in-Some c = record {
  of_family = λ a has.
      subst (λ (f : FormulaFamily). IsOfFamily (lines_in c.args.case.now) f a.0) c.in-Horn.is
      (c.requires a has);
  clauses =
      subst (λ (o : Option FormulaState). IfSome o (λ (f : FormulaState).
      AreJointClauses (lines_in c.args.case.now) c.args.asked.now f.clauses)) c.in-Some.is
      c.in_ok-formula-in-Horn.ensures;
}

pub returns-in-Some-2 : goal.returns-in-Some-2
returns-in-Some-2 c = record {
  of_family = λ a has.
      subst (λ (f : FormulaFamily). IsOfFamily (lines_in c.args.case.now) f a.0) c.in-Dual.is
      (c.requires a has);
  clauses =
      subst (λ (o : Option FormulaState). IfSome o (λ (f : FormulaState).
      AreJointClauses (lines_in c.args.case.now) c.args.asked.now f.clauses)) c.in-Some-2.is
      c.in_ok-formula-in-Dual.ensures;
}

pub returns-in-Some-3 : goal.returns-in-Some-3
returns-in-Some-3 c = record {
  of_family = λ a has.
      subst (λ (f : FormulaFamily). IsOfFamily (lines_in c.args.case.now) f a.0) c.in-Two.is
      (c.requires a has);
  clauses =
      subst (λ (o : Option FormulaState). IfSome o (λ (f : FormulaState).
      AreJointClauses (lines_in c.args.case.now) c.args.asked.now f.clauses)) c.in-Some-3.is
      c.in_ok-formula-in-Two.ensures;
}
