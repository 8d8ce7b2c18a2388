use Rattle.std.proofs.Common.{subst, sym}
use Rattle.std.specs.List.{All}
use Rattle.hv_basic.specs.Sharing.{IsJointKept}
use Rattle.hv_basic.proofs.Joints.{joints_without}
use Rattle.hv_basic.proofs.kept_joints.give_up_joint.Goals as goal

pub returns : goal.returns
returns c = λ lines are.
    subst (All (IsJointKept lines)) (sym c.remove.ensures.items)
    (joints_without lines c.args.joints.now.items 0 are)
