use Rattle.hv_grammar.proofs.Going.{done, filled_err, go, no_memory, start, stops}
use Rattle.hv_sas.specs.Text as text
use Rattle.hv_sas.proofs.Ranges.{values_push, variables_push}
use Rattle.hv_sas.proofs.read.variable.Goals as goal

pub returns-in_err-word_line-clause-reads : goal.returns-in_err-word_line-clause-reads
returns-in_err-word_line-clause-reads g c =
    stops _ (start (text.variable c.args.variables.now) _)
    c.in_err-word_line.ensures (filled_err _ _ _ c.from_residual.ensures.1)

pub returns-in_err-name-clause-reads : goal.returns-in_err-name-clause-reads
returns-in_err-name-clause-reads g c =
    stops _ (go _ (start (text.variable c.args.variables.now) _)
    c.in_ok-word_line.ensures)
    c.in_err-name.ensures (filled_err _ _ _ c.from_residual-in_err-name.ensures.1)

pub returns-in_err-layer_line-clause-reads : goal.returns-in_err-layer_line-clause-reads
returns-in_err-layer_line-clause-reads g c =
    stops _ (go _ (go _ (start (text.variable c.args.variables.now) _)
    c.in_ok-word_line.ensures)
    c.in_ok-name.ensures)
    c.in_err-layer_line.ensures (filled_err _ _ _ c.from_residual-in_err-layer_line.ensures.1)

pub returns-in_err-range-clause-reads : goal.returns-in_err-range-clause-reads
returns-in_err-range-clause-reads g c =
    stops _ (go _ (go _ (go _ (start (text.variable c.args.variables.now) _)
    c.in_ok-word_line.ensures)
    c.in_ok-name.ensures)
    c.in_ok-layer_line.ensures)
    c.in_err-range.ensures.reads (filled_err _ _ _ c.from_residual-in_err-range.ensures.1)

pub returns-in_err-values-clause-reads : goal.returns-in_err-values-clause-reads
returns-in_err-values-clause-reads g c =
    stops _ (go _ (go _ (go _ (go _ (start (text.variable c.args.variables.now) _)
    c.in_ok-word_line.ensures)
    c.in_ok-name.ensures)
    c.in_ok-layer_line.ensures)
    c.in_ok-range.ensures.reads)
    c.in_err-values.ensures.reads (filled_err _ _ _ c.from_residual-in_err-values.ensures.1)

pub returns-in_err-word_line-2-clause-reads : goal.returns-in_err-word_line-2-clause-reads
returns-in_err-word_line-2-clause-reads g c =
    stops _ (go _ (go _ (go _ (go _ (go _ (start (text.variable c.args.variables.now) _)
    c.in_ok-word_line.ensures)
    c.in_ok-name.ensures)
    c.in_ok-layer_line.ensures)
    c.in_ok-range.ensures.reads)
    c.in_ok-values.ensures.reads)
    c.in_err-word_line-2.ensures (filled_err _ _ _ c.from_residual-in_err-word_line-2.ensures.1)

pub returns-in_err-push-clause-reads : goal.returns-in_err-push-clause-reads
returns-in_err-push-clause-reads g c =
    no_memory _ _ _ _ _ (go _ (go _ (go _ (go _ (go _ (go _
    (start (text.variable c.args.variables.now) _)
    c.in_ok-word_line.ensures)
    c.in_ok-name.ensures)
    c.in_ok-layer_line.ensures)
    c.in_ok-range.ensures.reads)
    c.in_ok-values.ensures.reads)
    c.in_ok-word_line-2.ensures)
    (filled_err _ _ _ c.from_residual-in_err-push.ensures.1)

pub returns-clause-reads : goal.returns-clause-reads
returns-clause-reads g c =
    done _ _ _ _ _ (go _ (go _ (go _ (go _ (go _ (go _
    (start (text.variable c.args.variables.now) _)
    c.in_ok-word_line.ensures)
    c.in_ok-name.ensures)
    c.in_ok-layer_line.ensures)
    c.in_ok-range.ensures.reads)
    c.in_ok-values.ensures.reads)
    c.in_ok-word_line-2.ensures)
    c.in_ok-word_line-2.ensures.can c.in_ok-push.ensures.ok

pub returns-clause-used : goal.returns-clause-used
returns-clause-used g c =
    values_push c.args.variables.now _ _ c.args.used.now _ c.in_ok-push.ensures.ok c.requires.used
    c.in_ok-values.ensures.count

pub returns-clause-variables : goal.returns-clause-variables
returns-clause-variables g c =
    variables_push c.args.variables.now _ _ c.args.used.now _ c.in_ok-push.ensures.ok
    c.requires.used c.in_ok-values.ensures.count c.in_ok-range.ensures.within c.requires.variables
