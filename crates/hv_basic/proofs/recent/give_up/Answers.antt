use Rattle.std.proofs.Common.{subst, sym}
use Rattle.std.specs.List.{All}
use Rattle.hv_basic.specs.Sharing.{IsRightSide}
use Rattle.hv_basic.proofs.Sharing.{sides_without}
use Rattle.hv_basic.proofs.recent.give_up.Goals as goal

pub returns : goal.returns
returns c = λ lines are.
    subst (All (IsRightSide lines)) (sym c.remove.ensures.items)
    (sides_without lines c.args.sides.now.items c.in-Some.place are)
