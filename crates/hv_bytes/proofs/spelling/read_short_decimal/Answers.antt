use Rattle.std.proofs.Common.{arith}
use Rattle.hv_bytes.proofs.DecimalTexts.{IsDecimal-same, decimal_from_short}
use Rattle.hv_bytes.proofs.spelling.read_short_decimal.Goals as goal

pub returns-in_default-clause-none : goal.returns-in_default-clause-none
returns-in_default-clause-none c =
    λ n is.
    let bytes = c.args.bytes.now in
    let same = IsDecimal-same bytes n c.in-Some.number (decimal_from_short bytes n is)
    c.in-Some.ensures.some in
    absurd (omega (arith, is.short, c.if-number-lt-SHORT_END.false))
