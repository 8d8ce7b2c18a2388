use Rattle.std.proofs.Common.{arith}
use Rattle.hv_formula.proofs.Outside.{denied_all, denied_clash, denied_more}
use Rattle.hv_formula.proofs.denial.fill.Goals as goal

pub returns-then-not-branch-clause-none : goal.returns-then-not-branch-clause-none
returns-then-not-branch-clause-none c = λ _.
    denied_clash c.loop-literal.literal-index c.args.clause.now c.loop-literal.cube
    c.loop-literal-test.true
    c.loop-literal.invariant (c.in_ok-add.ensures.opposite.0 c.if-not-branch.true)

pub loop-literal-preserved : goal.loop-literal-preserved
loop-literal-preserved c =
    denied_more c.loop-literal.literal-index c.args.clause.now c.loop-literal.cube
    c.loop-literal-test.true
    c.add.new.self c.loop-literal.invariant (c.in_ok-add.ensures.added c.if-not-branch.false)

pub returns-clause-some : goal.returns-clause-some
returns-clause-some c = λ _.
    denied_all c.loop-literal.literal-index c.args.clause.now c.loop-literal.cube
    (omega (arith, c.loop-literal-test.false))
    c.loop-literal.invariant
