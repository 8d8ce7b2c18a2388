use Rattle.std.proofs.Common.{arith, refl}
use Rattle.hv_basic.proofs.OneFamily.{constants_alone, family_fails, family_more, family_whole}
use Rattle.hv_basic.proofs.OneFamily.{first_none}
use Rattle.hv_basic.proofs.families.one_family.Goals as goal

pub loop-asking-init : goal.loop-asking-init
loop-asking-init c = λ lines all.
    first_none lines c.args.askings.now c.args.before 0 refl c.args.before refl

pub loop-asking-preserved : goal.loop-asking-preserved
loop-asking-preserved c = λ lines all.
    let own = all c.loop-asking.asking-index _ c.loop-asking-test.true in
    family_more lines c.args.askings.now c.args.before c.loop-asking.asking-index (omega arith) _
    own.0 own.1 c.loop-asking.family _ c.in-Some.both own.2 c.in-Some.ensures
    (c.loop-asking.invariant lines all)

pub returns-in-None : goal.returns-in-None
returns-in-None c = λ lines all.
    let own = all c.loop-asking.asking-index _ c.loop-asking-test.true in
    family_fails lines c.args.askings.now c.args.before c.loop-asking.asking-index (omega arith) _
    own.0 own.1 c.loop-asking.family _ own.2 c.in-None.ensures (c.loop-asking.invariant lines all)

pub returns-in-Some-family : goal.returns-in-Some-family
returns-in-Some-family c = λ lines all.
    family_whole lines c.args.askings.now c.args.before c.loop-asking.asking-index
    (omega arith) c.loop-asking.family c.in-Some-family.one c.in-Some-family.is
    (c.loop-asking.invariant lines all)

pub returns-in-None-family : goal.returns-in-None-family
returns-in-None-family c = λ lines all.
    constants_alone lines c.args.askings.now c.args.before
    c.loop-asking.asking-index (omega arith) c.loop-asking.family c.in-None-family.is
    (c.loop-asking.invariant lines all)
