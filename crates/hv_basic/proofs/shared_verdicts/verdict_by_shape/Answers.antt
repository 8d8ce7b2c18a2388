use Rattle.std.proofs.Common.{subst, sym}
use Rattle.std.specs.List.{All}
use Rattle.hv_basic.specs.Cases.{lines_in}
use Rattle.hv_basic.specs.Sharing.{AreItsLeaves, IsJointKept, IsRightSide, SharedState}
use Rattle.hv_basic.proofs.shared_verdicts.verdict_by_shape.Goals as goal

pub returns-in_err-verdict-clause-shared : goal.returns-in_err-verdict-clause-shared
returns-in_err-verdict-clause-shared c = record {
  sides = subst (λ (s : SharedState). All (IsRightSide (lines_in c.args.case.now)) s.sides)
      (sym c.shared.view_is) c.requires.shared.sides;
  lefts = subst (λ (s : SharedState). All (AreItsLeaves (lines_in c.args.case.now)) s.lefts)
      (sym c.shared.view_is) c.requires.shared.lefts;
  joints = subst (λ (s : SharedState). All (IsJointKept (lines_in c.args.case.now)) s.joints)
      (sym c.shared.view_is) c.requires.shared.joints;
  flagged = c.decide_on.ensures.flagged;
}

pub returns-clause-shared : goal.returns-clause-shared
returns-clause-shared c = record {
  sides = subst (λ (s : SharedState). All (IsRightSide (lines_in c.args.case.now)) s.sides)
      (sym c.shared.view_is) c.requires.shared.sides;
  lefts = subst (λ (s : SharedState). All (AreItsLeaves (lines_in c.args.case.now)) s.lefts)
      (sym c.shared.view_is) c.requires.shared.lefts;
  joints = subst (λ (s : SharedState). All (IsJointKept (lines_in c.args.case.now)) s.joints)
      (sym c.shared.view_is) c.requires.shared.joints;
  flagged = c.decide_on.ensures.flagged;
}
