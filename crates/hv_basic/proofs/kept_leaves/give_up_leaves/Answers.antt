use Rattle.std.proofs.Common.{subst, sym}
use Rattle.std.specs.List.{All}
use Rattle.hv_basic.specs.Sharing.{AreItsLeaves}
use Rattle.hv_basic.proofs.KeptLeaves.{lefts_without}
use Rattle.hv_basic.proofs.kept_leaves.give_up_leaves.Goals as goal

pub returns : goal.returns
returns c = λ lines are.
    subst (All (AreItsLeaves lines)) (sym c.remove.ensures.items)
    (lefts_without lines c.args.kept.now.items 0 are)
