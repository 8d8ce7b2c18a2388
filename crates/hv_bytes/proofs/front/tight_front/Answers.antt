use Rattle.std.proofs.Common.{arith}
use Rattle.std.proofs.lemmas.List.{take_rest}
use Rattle.hv_bytes.proofs.ShortFronts.{spelled_field, spelled_last, spelled_more, spelled_short}
use Rattle.hv_bytes.proofs.front.tight_front.Goals as goal

pub returns-then-count-line-clause-fields : goal.returns-then-count-line-clause-fields
returns-then-count-line-clause-fields c =
    spelled_last c.args.line.now c.loop-count.count c.loop-count.number (omega arith)
    (omega arith) c.loop-count.invariant c.if-count-line.true

pub returns-then-digit-gt9-clause-fields : goal.returns-then-digit-gt9-clause-fields
returns-then-digit-gt9-clause-fields c = rw take_rest
    (spelled_field c.args.line.now c.loop-count.count c.loop-count.number (omega arith)
    (omega arith) (omega arith) c.loop-count.invariant
    (c.digit_of-digit.ensures.space c.if-digit.false))

pub overflow_mul-number : goal.overflow_mul-number
overflow_mul-number c =
    let short = spelled_short c.args.line.now c.loop-count.count c.loop-count.number
    (omega arith) c.loop-count.invariant in
    omega arith

pub overflow_add-number : goal.overflow_add-number
overflow_add-number c =
    let short = spelled_short c.args.line.now c.loop-count.count c.loop-count.number
    (omega arith) c.loop-count.invariant in
    omega arith

pub loop-count-preserved : goal.loop-count-preserved
loop-count-preserved c =
    spelled_more c.args.line.now c.loop-count.count c.loop-count.number
    c.digit_of-digit.result (omega arith) c.loop-count.invariant (omega arith)
    (c.digit_of-digit.ensures.digit (omega arith))
