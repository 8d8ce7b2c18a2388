use Rattle.std.proofs.Common.{arith}
use Rattle.hv_basic.proofs.JointLeaves.{formulas_of}
use Rattle.hv_basic.proofs.kept_joints.family_of_all.Goals as goal

pub returns : goal.returns
returns c = λ lines all.
    formulas_of lines c.args.askings.now all
    (λ k d less. c.loop-asking.invariant k d (omega (arith, less, c.loop-asking-test.false)))
    c.one_family.result (c.one_family.ensures lines all)
