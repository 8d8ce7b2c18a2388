use Rattle.hv_task.proofs.Next.{word_next, word_passed}
use Rattle.hv_task.proofs.bits.next_flag.Goals as goal

pub returns-in-Some : goal.returns-in-Some
returns-in-Some c =
    word_next c.args.words.now c.args.from c.loop-at.at c.start_in.result c.start_in.ensures.start
    c.loop-at.invariant c.in-Some.bit
    (rw c.in-Some.is at c.next_bit.ensures)

pub loop-at-preserved : goal.loop-at-preserved
loop-at-preserved c =
    word_passed c.args.words.now c.args.from c.loop-at.at c.start_in.result c.start_in.ensures.start
    c.loop-at.invariant
    (rw c.in_default.is at c.next_bit.ensures)
