use Rattle.std.proofs.lemmas.Bool.{iff_false}
use Rattle.hv_basic.proofs.Mixing.{two_fails}
use Rattle.hv_basic.proofs.shapes.two_of.Goals as goal

pub returns-else-are_of_two_families : goal.returns-else-are_of_two_families
returns-else-are_of_two_families c =
    two_fails c.args.table.now.lines c.args.left c.args.right
    (c.in_ok-first.first.set, c.in_ok-first.first.is_plain)
    (c.in_ok-second.second.set, c.in_ok-second.second.is_plain) c.in_ok-first.ensures.is
    c.in_ok-second.ensures.is
    (iff_false c.are_of_two_families.ensures c.if-are_of_two_families.false)
