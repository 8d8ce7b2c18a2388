use Rattle.std.proofs.Common.{subst}
use Rattle.hv_basic.specs.Leaves.{places}
use Rattle.hv_basic.specs.Working.Sharing.{AreLeavesWith}
use Rattle.hv_basic.proofs.Gathering.{read_there}
use Rattle.hv_basic.proofs.KeptLeaves.{joined, joined_twice, with_part}
use Rattle.hv_basic.proofs.kept_leaves.join.Goals as goal

pub returns-then-part-own : goal.returns-then-part-own
returns-then-part-own c = λ _.
    joined_twice c.args.table.now.lines c.args.own.now c.args.root c.args.part c.requires.root
    c.requires.part c.requires.own c.if-part-own.true

pub returns : goal.returns
returns c = λ _.
    let lines = c.args.table.now.lines in
    joined lines c.args.own.now c.args.root c.args.part c.put_all.new.into c.requires.root
    c.requires.part c.requires.own
    (with_part lines c.args.part (places c.args.own.now.leaves.items)
    (places c.in_ok-more.more.items) (places c.put_all.new.into.items) c.in_ok-more.ensures.leaves
    (subst (λ xs. AreLeavesWith (places c.args.own.now.leaves.items) (places xs)
    (places c.put_all.new.into.items)) c.deref.ensures.value c.in_ok-put_all.ensures.places))
    (c.in_ok-put_all.ensures.read lines c.requires.own.read
    (read_there lines _ _ c.deref.ensures.value c.in_ok-more.ensures.read))
