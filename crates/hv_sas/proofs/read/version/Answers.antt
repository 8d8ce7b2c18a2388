use Rattle.hv_grammar.proofs.Going.{go, last, start, stops}
use Rattle.hv_sas.specs.Text as text
use Rattle.hv_sas.proofs.read.version.Goals as goal

pub returns-in_err-word_line : goal.returns-in_err-word_line
returns-in_err-word_line g c =
    stops _ (start (text.version) _) c.in_err-word_line.ensures c.from_residual.ensures.1

pub returns-in_err-version_line : goal.returns-in_err-version_line
returns-in_err-version_line g c =
    stops _ (go _ (start (text.version) _) c.in_ok-word_line.ensures)
    c.in_err-version_line.ensures c.from_residual-in_err-version_line.ensures.1

pub returns : goal.returns
returns g c =
    last _ _ _ _ _ _ (go _ (go _ (start (text.version) _) c.in_ok-word_line.ensures)
    c.in_ok-version_line.ensures)
    c.word_line-2.ensures
