use Rattle.hv_bytes.proofs.DecimalTexts.{decimal_read, decimal_shape, decimal_unread}
use Rattle.hv_bytes.proofs.spelling.read_decimal.Goals as goal

pub returns-then-has_decimal_shape-clause-some : goal.returns-then-has_decimal_shape-clause-some
returns-then-has_decimal_shape-clause-some c =
    decimal_read c.args.bytes.now _ (c.has_decimal_shape.ensures.0 c.if-has_decimal_shape.true)
    c.digits_number.ensures.some

pub returns-then-has_decimal_shape-clause-none : goal.returns-then-has_decimal_shape-clause-none
returns-then-has_decimal_shape-clause-none c = decimal_unread c.args.bytes.now _
    c.digits_number.ensures.none

pub returns-else-has_decimal_shape-clause-none : goal.returns-else-has_decimal_shape-clause-none
returns-else-has_decimal_shape-clause-none c =
    λ n is. let shaped = c.has_decimal_shape.ensures.1 (decimal_shape c.args.bytes.now n is) in cc
