use Rattle.hv_grammar.proofs.Numerals.{decimal_answer}
use Rattle.hv_grammar.proofs.lines.decimal.Goals as goal

pub returns : goal.returns
returns c =
    decimal_answer c.args.bytes.now c.read_decimal.result c.read_decimal.ensures.some
    c.read_decimal.ensures.none
