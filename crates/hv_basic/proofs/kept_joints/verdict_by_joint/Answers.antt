use Rattle.std.proofs.Common.{◌≡◌, ◌∙◌, IfSome, ap, arith, refl, subst, sym}
use Rattle.std.proofs.lemmas.Option.{get_or_from_slice_get, slice_get_within}
use Rattle.hv_basic.specs.Cases.{lines_in}
use Rattle.hv_basic.specs.Sharing.{IsJointFor, IsJointKept}
use Rattle.hv_basic.specs.declared.shared.KeptJoint.{KeptJoint}
use Rattle.hv_basic.specs.Working.Joints.{IsJointAt}
use Rattle.hv_basic.proofs.kept_joints.verdict_by_joint.Goals as goal

pub index-requires : goal.index-requires
index-requires c =
    let joints = c.bring_joint.new.joints in
    let at : IsJointAt joints.items c.args.claim.left c.in-Some.place =
    subst (λ found. IfSome found (IsJointAt joints.items c.args.claim.left)) c.in-Some.is
    c.in_ok-place.ensures.place in
    omega (arith, slice_get_within joints.items c.in-Some.place at.0 at.1, joints.ok.0)

pub verdict_of_joint-requires : goal.verdict_of_joint-requires
verdict_of_joint-requires c =
    let lines = lines_in c.args.case.now in
    let joints = c.bring_joint.new.joints.items in
    let kept = c.index.result.now in
    let at : IsJointAt joints c.args.claim.left c.in-Some.place =
    subst (λ found. IfSome found (IsJointAt joints c.args.claim.left)) c.in-Some.is
    c.in_ok-place.ensures.place in
    let same : kept ≡ at.0 =
    c.index.ensures ∙ get_or_from_slice_get joints c.in-Some.place at.0 kept at.1 in
    let is_kept = subst (IsJointKept lines) (sym c.index.ensures)
    (c.in_ok-place.ensures.joints c.in-Some.place kept
    (slice_get_within joints c.in-Some.place at.0 at.1)) in record {
      word = c.if-not-is_lone_word.ensures refl;
      right = c.requires.right;
      joint =
          subst (λ root. IsJointFor lines root c.in-Some-formula.joint)
          (ap (λ (k : KeptJoint). k.root) same ∙ at.2)
          (subst (λ formula. IfSome formula (IsJointFor lines kept.root)) c.in-Some-formula.is
          is_kept.stands);
    }
