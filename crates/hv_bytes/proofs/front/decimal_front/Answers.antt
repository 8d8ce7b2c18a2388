use Rattle.std.proofs.Common.{arith}
use Rattle.std.proofs.lemmas.List.{take_rest}
use Rattle.hv_bytes.proofs.DecimalFronts.{front_decimal, front_is, front_last, front_space}
use Rattle.hv_bytes.proofs.DecimalTexts.{decimal_shape}
use Rattle.hv_bytes.proofs.front.decimal_front.Goals as goal

pub returns-then-not-has_decimal_shape-clause-none :
    goal.returns-then-not-has_decimal_shape-clause-none
returns-then-not-has_decimal_shape-clause-none c =
    λ n later short fields.
    let is = front_is c.args.line.now c.digit_front-front.result.count
    c.digit_front-front.ensures.front n later short fields in
    let shaped = c.has_decimal_shape.ensures.1 (decimal_shape _ n is.0) in cc

pub returns-then-front-line-clause-number : goal.returns-then-front-line-clause-number
returns-then-front-line-clause-number c =
    (front_decimal c.args.line.now c.digit_front-front.result.count
    c.digit_front-front.ensures.front c.digit_front-front.result.number
    (c.has_decimal_shape.ensures.0 (cc)) c.digit_front-front.ensures.number).short

pub returns-then-front-line-clause-fields : goal.returns-then-front-line-clause-fields
returns-then-front-line-clause-fields c =
    front_last c.args.line.now c.digit_front-front.result.count
    c.digit_front-front.ensures.front c.digit_front-front.result.number
    (front_decimal c.args.line.now c.digit_front-front.result.count
    c.digit_front-front.ensures.front c.digit_front-front.result.number
    (c.has_decimal_shape.ensures.0 (cc)) c.digit_front-front.ensures.number)
    c.if-front-line.true

pub returns-then-line-front-ne32-clause-none : goal.returns-then-line-front-ne32-clause-none
returns-then-line-front-ne32-clause-none c =
    λ n later short fields.
    let is = front_is c.args.line.now c.digit_front-front.result.count
    c.digit_front-front.ensures.front n later short fields in
    c.if-line-front-ne32.true (is.1 (omega (
      arith,
      c.digit_front-front.ensures.front.within,
      c.if-front-line.false,
    )))

pub returns-clause-number : goal.returns-clause-number
returns-clause-number c =
    (front_decimal c.args.line.now c.digit_front-front.result.count
    c.digit_front-front.ensures.front c.digit_front-front.result.number
    (c.has_decimal_shape.ensures.0 (cc)) c.digit_front-front.ensures.number).short

pub returns-clause-fields : goal.returns-clause-fields
returns-clause-fields c = rw take_rest
    (front_space c.args.line.now c.digit_front-front.result.count
    c.digit_front-front.ensures.front c.digit_front-front.result.number
    (front_decimal c.args.line.now c.digit_front-front.result.count
    c.digit_front-front.ensures.front c.digit_front-front.result.number
    (c.has_decimal_shape.ensures.0 (cc)) c.digit_front-front.ensures.number)
    (omega (
      arith,
      c.digit_front-front.ensures.front.within,
      c.if-front-line.false,
    ))
    (cc))
