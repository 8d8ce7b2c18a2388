use Rattle.std.proofs.Common.{subst}
use Rattle.hv_basic.specs.Working.Gathered.{AreOthers}
use Rattle.hv_basic.proofs.Gathering.{others_again, others_more, others_one, others_two}
use Rattle.hv_basic.proofs.signed_sets.with_other.Goals as goal

pub returns-in-None : goal.returns-in-None
returns-in-None c = λ lines leaves are out.
    others_one lines leaves c.args.leaf (subst (AreOthers lines leaves) c.in-None.is are) out

pub returns-then-other-leaf : goal.returns-then-other-leaf
returns-then-other-leaf c = λ lines leaves are out.
    others_again lines leaves c.args.leaf c.in-One.other c.if-other-leaf.true
    (subst (AreOthers lines leaves) c.in-One.is are)

pub returns-else-other-leaf : goal.returns-else-other-leaf
returns-else-other-leaf c = λ lines leaves are out.
    others_two lines leaves c.args.leaf c.in-One.other c.if-other-leaf.false
    (subst (AreOthers lines leaves) c.in-One.is are) out

pub returns-in-More : goal.returns-in-More
returns-in-More c = λ lines leaves are out.
    others_more lines leaves c.args.leaf (subst (AreOthers lines leaves) c.in-More.is are)
