use Rattle.std.proofs.Common.{refl, sym, subst, ◌∙◌}
use Rattle.std.specs.List.{All}
use Rattle.hv_basic.specs.Cases.{lines_in}
use Rattle.hv_basic.specs.Sharing.{IsJointKept}
use Rattle.hv_basic.proofs.JointLeaves.{joint_pushed, last_put}
use Rattle.hv_basic.proofs.kept_joints.bring_joint.Goals as goal

pub returns-in_err-push-clause-joints : goal.returns-in_err-push-clause-joints
returns-in_err-push-clause-joints c =
    subst (All (IsJointKept (lines_in c.args.case.now))) (sym c.in_err-push.ensures.items)
    (c.give_up_joint.ensures (lines_in c.args.case.now) c.requires.joints)

pub returns-clause-place : goal.returns-clause-place
returns-clause-place c = (
  record { root = c.args.root; formula = c.in_ok-formula.formula },
  last_put c.give_up_joint.new.joints.items c.push.new.self.items _ c.len-2.result
      c.in_ok-push.ensures.items (c.len-2.ensures ∙ c.push.new.self.ok.0),
  refl,
)

pub returns-clause-joints : goal.returns-clause-joints
returns-clause-joints c =
    subst (All (IsJointKept (lines_in c.args.case.now))) (sym c.in_ok-push.ensures.items)
    (joint_pushed (lines_in c.args.case.now) c.args.lefts.now c.give_up_joint.new.joints.items
    c.args.root c.in-Some-leaves_at.place c.index-lefts-place-2.result c.in_ok-formula.formula
    c.requires.lefts c.in-Some-leaves_at.ensures c.index-lefts-place-2.is
    c.in_ok-formula.ensures
    (c.give_up_joint.ensures (lines_in c.args.case.now) c.requires.joints))
