use Rattle.std.proofs.Common.{◌∷◌, [], subst, sym}
use Rattle.std.specs.List.{All}
use Rattle.hv_basic.specs.Leaves.{IsLeafRead, places}
use Rattle.hv_basic.specs.Working.Sharing.{AreLeavesWith}
use Rattle.hv_basic.proofs.KeptLeaves.{leaf_put, read_put}
use Rattle.hv_basic.proofs.kept_leaves.put_leaf.Goals as goal

pub returns-clause-places : goal.returns-clause-places
returns-clause-places c =
    subst (λ xs. AreLeavesWith (places c.args.into.now.items) (c.args.leaf.place ∷ []) (places xs))
    (sym c.in_ok-insert.ensures.items)
    (leaf_put c.args.into.now.items c.later_than-place.result c.args.leaf)

pub returns-clause-read : goal.returns-clause-read
returns-clause-read c = λ lines read own.
    subst (All (IsLeafRead lines)) (sym c.in_ok-insert.ensures.items)
    (read_put lines c.args.into.now.items c.later_than-place.result c.args.leaf read own)
