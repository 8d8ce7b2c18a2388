use Rattle.std.proofs.Common.{arith, refl}
use Rattle.std.proofs.lemmas.Option.{IfSome_then}
use Rattle.std.proofs.lemmas.Result.{IfOk-weaker}
use Rattle.std.specs.Option.{IfSome}
use Rattle.hv_basic.specs.Cases.{lines_in}
use Rattle.hv_basic.specs.Sharing.{IsJointFor, IsJointOf}
use Rattle.hv_basic.proofs.JointLeaves.{asked_family, joint_stands}
use Rattle.hv_basic.proofs.kept_joints.joint_of_leaves.Goals as goal

pub joint_of-requires : goal.joint_of-requires
joint_of-requires c =
    asked_family (lines_in c.args.case.now) c.args.own.now c.requires c.deref.result.now
    c.deref.ensures.value c.new-askings.result.items c.gather.new.into.items
    c.new-askings.ensures.items c.in_ok-gather.ensures.gathered c.in_ok-gather.field-0
    c.in_ok-gather.ensures.others c.in-None.is c.deref-2.result.now c.deref-2.ensures.value
    (c.if-not-are_positive.ensures refl) c.deref-3.result.now c.deref-3.ensures.value
    c.in-Some.family c.in-Some.ensures c.deref-4.result.now c.deref-4.ensures.value
    c.in_ok-asked.asked.items c.in_ok-asked.ensures.chosen c.in_ok-asked.ensures.rises
    c.deref-5.result.now c.deref-5.ensures.value
    (omega (arith, c.if-len-ge-MOST_OPERANDS.false, c.len.ensures, c.deref-5.ensures.len))

pub returns : goal.returns
returns c =
    IfOk-weaker c.joint_of.result
    (λ found. IfSome found (IsJointOf (lines_in c.args.case.now) c.deref-5.result.now))
    (λ found. IfSome found (IsJointFor (lines_in c.args.case.now) c.args.own.now.root))
    (λ found some. IfSome_then found some (joint_stands (lines_in c.args.case.now) c.args.own.now
    c.requires c.deref.result.now
    c.deref.ensures.value c.new-askings.result.items c.gather.new.into.items
    c.new-askings.ensures.items c.in_ok-gather.ensures.gathered c.in_ok-gather.field-0
    c.in_ok-gather.ensures.others c.in-None.is c.deref-2.result.now c.deref-2.ensures.value
    (c.if-not-are_positive.ensures refl) c.deref-3.result.now c.deref-3.ensures.value
    c.in-Some.family c.in-Some.ensures c.deref-4.result.now c.deref-4.ensures.value
    c.in_ok-asked.asked.items c.in_ok-asked.ensures.chosen c.in_ok-asked.ensures.rises
    c.deref-5.result.now c.deref-5.ensures.value
    (omega (arith, c.if-len-ge-MOST_OPERANDS.false, c.len.ensures, c.deref-5.ensures.len))))
    c.joint_of.ensures
