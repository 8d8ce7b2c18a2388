use Rattle.hv_grammar.proofs.Going.{go, last, start, stops}
use Rattle.hv_sas.specs.Text as text
use Rattle.hv_sas.proofs.read.mutex.Goals as goal

pub returns-in_err-word_line : goal.returns-in_err-word_line
returns-in_err-word_line g c =
    stops _ (start (text.mutex c.args.variables.now tt) _)
    c.in_err-word_line.ensures c.from_residual.ensures.1

pub returns-in_err-count : goal.returns-in_err-count
returns-in_err-count g c =
    stops _ (go _ (start (text.mutex c.args.variables.now tt) _) c.in_ok-word_line.ensures)
    c.in_err-count.ensures c.from_residual-in_err-count.ensures.1

pub returns-in_err-mutex_facts : goal.returns-in_err-mutex_facts
returns-in_err-mutex_facts g c =
    stops _ (go _ (go _ (start (text.mutex c.args.variables.now tt) _)
    c.in_ok-word_line.ensures) c.in_ok-count.ensures)
    c.in_err-mutex_facts.ensures c.from_residual-in_err-mutex_facts.ensures.1

pub returns : goal.returns
returns g c =
    last _ _ _ _ _ _ (go _ (go _ (go _ (start (text.mutex c.args.variables.now tt) _)
    c.in_ok-word_line.ensures) c.in_ok-count.ensures) c.in_ok-mutex_facts.ensures)
    c.word_line-2.ensures
