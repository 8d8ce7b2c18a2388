use Rattle.std.proofs.Common.{subst, sym}
use Rattle.std.specs.List.{All}
use Rattle.hv_basic.specs.Cases.{lines_in}
use Rattle.hv_basic.specs.Sharing.{AreItsFlags, AreItsLeaves, IsJointKept, IsRightSide, SharedState}
use Rattle.hv_basic.proofs.Siding.{fault_of, left_part}
use Rattle.hv_basic.proofs.shared_verdicts.verdict_of_sides.Goals as goal

pub verdict_by_joint-requires-clause-lefts : goal.verdict_by_joint-requires-clause-lefts
verdict_by_joint-requires-clause-lefts c =
    subst (All (AreItsLeaves (lines_in c.args.case.now))) (sym c.deref.ensures.value)
    (subst (λ (s : SharedState). All (AreItsLeaves (lines_in c.args.case.now)) s.lefts)
    (sym c.shared.view_is) c.requires.shared.lefts)

pub verdict_by_joint-requires-clause-joints : goal.verdict_by_joint-requires-clause-joints
verdict_by_joint-requires-clause-joints c =
    subst (λ (s : SharedState). All (IsJointKept (lines_in c.args.case.now)) s.joints)
    (sym c.shared.view_is) c.requires.shared.joints

pub returns-in_err-verdict-clause-shared : goal.returns-in_err-verdict-clause-shared
returns-in_err-verdict-clause-shared c = record {
  sides = subst (λ (s : SharedState). All (IsRightSide (lines_in c.args.case.now)) s.sides)
      (sym c.shared.view_is) c.requires.shared.sides;
  lefts = subst (λ (s : SharedState). All (AreItsLeaves (lines_in c.args.case.now)) s.lefts)
      (sym c.shared.view_is) c.requires.shared.lefts;
  joints = c.verdict_by_joint.ensures.joints;
  flagged = subst (λ (s : SharedState). All (AreItsFlags (lines_in c.args.case.now)) s.flagged)
      (sym c.shared.view_is) c.requires.shared.flagged;
}

pub returns-in-Some-clause-shared : goal.returns-in-Some-clause-shared
returns-in-Some-clause-shared c = record {
  sides = subst (λ (s : SharedState). All (IsRightSide (lines_in c.args.case.now)) s.sides)
      (sym c.shared.view_is) c.requires.shared.sides;
  lefts = subst (λ (s : SharedState). All (AreItsLeaves (lines_in c.args.case.now)) s.lefts)
      (sym c.shared.view_is) c.requires.shared.lefts;
  joints = c.verdict_by_joint.ensures.joints;
  flagged = subst (λ (s : SharedState). All (AreItsFlags (lines_in c.args.case.now)) s.flagged)
      (sym c.shared.view_is) c.requires.shared.flagged;
}

pub left_of-requires-clause-kept : goal.left_of-requires-clause-kept
left_of-requires-clause-kept c =
    subst (λ (s : SharedState). All (AreItsLeaves (lines_in c.args.case.now)) s.lefts)
    (sym c.shared.view_is) c.requires.shared.lefts

pub verdict_beside-requires-clause-shared : goal.verdict_beside-requires-clause-shared
verdict_beside-requires-clause-shared c = record {
  sides = subst (λ (s : SharedState). All (IsRightSide (lines_in c.args.case.now)) s.sides)
      (sym c.shared.view_is) c.requires.shared.sides;
  lefts = c.left_of.ensures.kept;
  joints = c.verdict_by_joint.ensures.joints;
  flagged = subst (λ (s : SharedState). All (AreItsFlags (lines_in c.args.case.now)) s.flagged)
      (sym c.shared.view_is) c.requires.shared.flagged;
}

pub returns-in-Err-clause-shared : goal.returns-in-Err-clause-shared
returns-in-Err-clause-shared c = record {
  sides = subst (λ (s : SharedState). All (IsRightSide (lines_in c.args.case.now)) s.sides)
      (sym c.shared.view_is) c.requires.shared.sides;
  lefts = c.left_of.ensures.kept;
  joints = c.verdict_by_joint.ensures.joints;
  flagged = subst (λ (s : SharedState). All (AreItsFlags (lines_in c.args.case.now)) s.flagged)
      (sym c.shared.view_is) c.requires.shared.flagged;
}

pub returns-in-Err-clause-err : goal.returns-in-Err-clause-err
returns-in-Err-clause-err c =
    fault_of _ _
    (λ out question is. out question.acts (left_part (lines_in c.args.case.now) c.args.claim.word
    c.args.claim.left c.args.claim.right question.acts is.sides)) c.in-Err.fault
    c.in-Err.ensures.err
