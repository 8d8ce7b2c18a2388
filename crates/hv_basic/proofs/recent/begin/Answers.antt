use Rattle.std.proofs.Common.{subst, sym}
use Rattle.std.specs.List.{All}
use Rattle.hv_basic.specs.Sharing.{IsRightSide}
use Rattle.hv_basic.proofs.Sharing.{sides_begun}
use Rattle.hv_basic.proofs.recent.begin.Goals as goal

pub returns-clause-kept : goal.returns-clause-kept
returns-clause-kept c = λ lines are.
    subst (All (IsRightSide lines)) (sym c.in_ok-push.ensures.items)
    (sides_begun lines c.give_up.new.sides.items c.no_side.result c.no_side.ensures
    (c.give_up.ensures lines are))
