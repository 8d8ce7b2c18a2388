use Rattle.hv_grammar.proofs.Numerals.{short_answer}
use Rattle.hv_grammar.proofs.lines.short_decimal.Goals as goal

pub returns : goal.returns
returns c =
    short_answer c.args.bytes.now c.read_short_decimal.result c.read_short_decimal.ensures.some
    c.read_short_decimal.ensures.none
