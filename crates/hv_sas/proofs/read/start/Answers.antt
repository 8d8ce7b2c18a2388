use Rattle.std.proofs.Common.{refl}
use Rattle.hv_grammar.proofs.Going.{done, go, start, stops}
use Rattle.hv_sas.specs.Text as text
use Rattle.hv_sas.proofs.read.start.Goals as goal

pub returns-in_err-word_line-clause-reads : goal.returns-in_err-word_line-clause-reads
returns-in_err-word_line-clause-reads g c =
    stops _ (start (text.start c.args.variables.now) _)
    c.in_err-word_line.ensures c.from_residual.ensures.1

pub returns-in_err-values-clause-reads : goal.returns-in_err-values-clause-reads
returns-in_err-values-clause-reads g c =
    stops _ (go _ (start (text.start c.args.variables.now) _) c.in_ok-word_line.ensures)
    c.in_err-values.ensures.reads c.from_residual-in_err-values.ensures.1

pub returns-in_err-word_line-2-clause-reads : goal.returns-in_err-word_line-2-clause-reads
returns-in_err-word_line-2-clause-reads g c =
    stops _ (go _ (go _ (start (text.start c.args.variables.now) _) c.in_ok-word_line.ensures)
    c.in_ok-values.ensures.reads)
    c.in_err-word_line-2.ensures c.from_residual-in_err-word_line-2.ensures.1

pub returns-clause-reads : goal.returns-clause-reads
returns-clause-reads g c =
    done _ _ _ _ _ (go _ (go _ (go _ (start (text.start c.args.variables.now) _)
    c.in_ok-word_line.ensures) c.in_ok-values.ensures.reads) c.in_ok-word_line-2.ensures)
    c.in_ok-word_line-2.ensures.can refl
