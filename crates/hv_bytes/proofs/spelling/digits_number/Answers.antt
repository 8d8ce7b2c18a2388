use Rattle.std.proofs.Common.{get_or, arith}
use Rattle.std.proofs.lemmas.Str.{digit_value_digit}
use Rattle.std.proofs.lemmas.Str.Parse.{digit_at}
use Rattle.std.proofs.lemmas.Int.Digits.{digits_value_more, digits_more}
use Rattle.hv_bytes.proofs.DecimalTexts.{digits_room}
use Rattle.hv_bytes.proofs.spelling.digits_number.Goals as goal

pub returns-then-not-is_ascii_digit-clause-none : goal.returns-then-not-is_ascii_digit-clause-none
returns-then-not-is_ascii_digit-clause-none c =
    λ all. let digit = digit_at c.args.digits.now c.loop-digit.digit-index all
    c.loop-digit-test.true in grind arith

pub overflow_mul-number : goal.overflow_mul-number
overflow_mul-number c =
    omega (
      arith,
      c.loop-digit.invariant.1,
      digits_room c.args.digits.now c.loop-digit.digit-index
          c.loop-digit-test.true c.requires c.loop-digit.invariant.0,
    )

pub overflow_add-number : goal.overflow_add-number
overflow_add-number c =
    omega (
      arith,
      c.loop-digit.invariant.1,
      digits_room c.args.digits.now c.loop-digit.digit-index
          c.loop-digit-test.true c.requires c.loop-digit.invariant.0,
    )

pub loop-digit-preserved : goal.loop-digit-preserved
loop-digit-preserved c =
    let ds = c.args.digits.now in
    let i = c.loop-digit.digit-index in
    let more = digits_value_more 10 ds i c.loop-digit-test.true in
    let spelled = digit_value_digit (get_or ds i 0) c.if-not-is_ascii_digit.ensures.cases in (
      digits_more 10 ds i c.loop-digit-test.true c.loop-digit.invariant.0
          c.if-not-is_ascii_digit.ensures.bound,
      omega (arith, more, spelled, c.loop-digit.invariant.1),
    )
