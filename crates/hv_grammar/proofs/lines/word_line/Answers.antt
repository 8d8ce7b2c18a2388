use Rattle.std.proofs.Common.{ap, ◌∙◌}
use Rattle.hv_grammar.specs.Forms.{is_word}
use Rattle.hv_grammar.proofs.Lined.{line_read, line_stop}
use Rattle.hv_grammar.proofs.lines.word_line.Goals as goal

pub returns-in_err-next_line : goal.returns-in_err-next_line
returns-in_err-next_line g c =
    line_stop _ _ _ _ _ _ c.in_err-next_line.ensures c.from_residual.ensures.1

pub returns : goal.returns
returns g c = line_read _ _ _ _ _ _ c.in_ok-next_line.ensures
    (c.is_word.ensures ∙ ap
    (λ l. is_word c.args.expected.now c.args.bad l) c.line.ensures) c.at_line.ensures
