use Rattle.std.proofs.Common.{subst, sym}
use Rattle.std.proofs.lemmas.List.Elements.{All-push}
use Rattle.std.specs.List.{All}
use Rattle.hv_basic.specs.Sharing.{AreItsLeaves}
use Rattle.hv_basic.proofs.kept_leaves.put_leaves.Goals as goal

pub returns : goal.returns
returns c = λ lines are own.
    subst (All (AreItsLeaves lines)) (sym c.in_ok-push.ensures.items)
    (All-push (AreItsLeaves lines) c.give_up_leaves.new.kept.items c.args.own
    (c.give_up_leaves.ensures lines are) own)
