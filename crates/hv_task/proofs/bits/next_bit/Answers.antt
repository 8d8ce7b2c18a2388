use Rattle.std.proofs.Common.{arith}
use Rattle.hv_task.proofs.Flags.{first_past, none_past, part_fits}
use Rattle.hv_task.proofs.bits.next_bit.Goals as goal

pub returns-then-rest-eq0 : goal.returns-then-rest-eq0
returns-then-rest-eq0 c = λ i upto less. none_past c.args.word c.args.k i c.if-rest-eq0.true upto

pub returns : goal.returns
returns c =
    let some = c.if-rest-eq0.false in
    first_past c.args.word c.args.k (omega arith)
    (part_fits c.args.word c.args.k c.ranges.word.fits) c.ranges.word.fits
