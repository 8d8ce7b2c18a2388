use Rattle.std.proofs.Common.{subst, sym}
use Rattle.std.proofs.lemmas.List.Elements.{All-push}
use Rattle.std.specs.List.{All}
use Rattle.hv_basic.specs.Leaves.{IsLeafRead}
use Rattle.hv_basic.proofs.leaves.look_at.Goals as goal

pub returns-in_ok-push-in-None-clause-read : goal.returns-in_ok-push-in-None-clause-read
returns-in_ok-push-in-None-clause-read c =
    subst (All (IsLeafRead c.args.table.now.lines)) (sym c.in_ok-push-in-None.ensures.items)
    (All-push (IsLeafRead c.args.table.now.lines) c.args.found.now.items c.leaf_of.result
    c.requires.read c.leaf_of.ensures.read)
