use Rattle.std.proofs.Common.{refl}
use Rattle.hv_grammar.proofs.Going.{done, go, start, stops}
use Rattle.hv_sas.specs.Text as text
use Rattle.hv_sas.proofs.read.metric.Goals as goal

pub returns-in_err-word_line : goal.returns-in_err-word_line
returns-in_err-word_line g c =
    stops _ (start (text.metric) _) c.in_err-word_line.ensures c.from_residual.ensures.1

pub returns-in_err-value : goal.returns-in_err-value
returns-in_err-value g c =
    stops _ (go _ (start (text.metric) _) c.in_ok-word_line.ensures)
    c.in_err-value.ensures c.from_residual-in_err-value.ensures.1

pub returns-in_err-word_line-2 : goal.returns-in_err-word_line-2
returns-in_err-word_line-2 g c =
    stops _ (go _ (go _ (start (text.metric) _) c.in_ok-word_line.ensures) c.in_ok-value.ensures)
    c.in_err-word_line-2.ensures c.from_residual-in_err-word_line-2.ensures.1

pub returns : goal.returns
returns g c =
    done _ _ _ _ _ (go _ (go _ (go _ (start (text.metric) _) c.in_ok-word_line.ensures)
    c.in_ok-value.ensures) c.in_ok-word_line-2.ensures)
    c.in_ok-word_line-2.ensures.can refl
