use Rattle.hv_basic.proofs.Ordering.{behind_all}
use Rattle.hv_basic.proofs.rising.comes_last.Goals as goal

pub returns-then-count-gt0 : goal.returns-then-count-gt0
returns-then-count-gt0 c = λ yes.
    behind_all c.args.asked.now c.args.next _ c.requires c.if-count-gt0.true
    (c.comes_before.ensures yes)
