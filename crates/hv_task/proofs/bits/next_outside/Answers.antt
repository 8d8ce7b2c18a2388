use Rattle.std.proofs.Common.{◌&&◌, not, arith}
use Rattle.hv_task.specs.Working.Words.{flag_at}
use Rattle.hv_task.proofs.Outside.{none_outside, place_outside, set_next, set_passed}
use Rattle.hv_task.proofs.bits.next_outside.Goals as goal

pub returns-in-Some : goal.returns-in-Some
returns-in-Some c =
    set_next (λ p. flag_at c.args.words.now p && not (flag_at c.args.other.now p)) c.outside.result
    c.args.from c.loop-at.at c.start_in.result
    (place_outside c.args.words.now c.args.other.now c.outside.result c.loop-at.at
    c.outside.ensures)
    c.start_in.ensures.start c.loop-at.invariant c.in-Some.bit
    (rw c.in-Some.is at c.next_bit.ensures)

pub loop-at-preserved : goal.loop-at-preserved
loop-at-preserved c =
    set_passed (λ p. flag_at c.args.words.now p && not (flag_at c.args.other.now p))
    c.outside.result c.args.from c.loop-at.at c.start_in.result
    (place_outside c.args.words.now c.args.other.now c.outside.result c.loop-at.at
    c.outside.ensures)
    c.start_in.ensures.start c.loop-at.invariant (rw c.in_default.is at c.next_bit.ensures)

pub returns : goal.returns
returns c = none_outside c.args.words.now c.args.other.now c.args.from c.loop-at.at (omega arith)
    c.loop-at.invariant
