use Rattle.std.proofs.Common.{◌<◌, get_or, length, arith}
use Rattle.std.proofs.lemmas.Str.{digit_value_digit}
use Rattle.std.proofs.lemmas.Int.Digits.{digits_value_more, digits_more}
use Rattle.hv_bytes.proofs.DecimalFronts.{front_room}
use Rattle.hv_bytes.proofs.front.digit_front.Goals as goal

pub overflow_mul-number : goal.overflow_mul-number
overflow_mul-number c =
    let within : c.loop-count.count < length c.args.bytes.now = omega arith in
    let short : c.loop-count.count < 18 = omega arith in
    omega (
      arith,
      c.loop-count.invariant.1,
      front_room c.args.bytes.now c.loop-count.count (omega arith) short c.loop-count.invariant.0,
    )

pub overflow_add-number : goal.overflow_add-number
overflow_add-number c =
    let within : c.loop-count.count < length c.args.bytes.now = omega arith in
    let short : c.loop-count.count < 18 = omega arith in
    omega (
      arith,
      c.loop-count.invariant.1,
      front_room c.args.bytes.now c.loop-count.count (omega arith) short c.loop-count.invariant.0,
    )

pub loop-count-preserved : goal.loop-count-preserved
loop-count-preserved c =
    let ds = c.args.bytes.now in
    let i = c.loop-count.count in
    let within : i < length ds = omega arith in
    let more = digits_value_more 10 ds i within in
    let spelled = digit_value_digit (get_or ds i 0) c.if-not-is_ascii_digit.ensures.cases in (
      digits_more 10 ds i within c.loop-count.invariant.0 c.if-not-is_ascii_digit.ensures.bound,
      omega (arith, more, spelled, c.loop-count.invariant.1),
    )
