use Rattle.hv_grammar.proofs.Going.{filled_err, go, start, stops}
use Rattle.hv_task_text.specs.TaskFile as text
use Rattle.hv_task_text.proofs.Listed.{closed}
use Rattle.hv_task_text.proofs.read.atom_names.Goals as goal

pub returns-clause-reads : goal.returns-clause-reads
returns-clause-reads g c =
    closed c.names.new.task.names c.word_line.result (go _ (go _ (start text.atom_names _)
    c.in_ok-count.ensures.reads) c.in_ok-names.ensures.reads) c.word_line.ensures

pub returns-in_err-count-clause-reads : goal.returns-in_err-count-clause-reads
returns-in_err-count-clause-reads g c =
    stops _ (start text.atom_names _) c.in_err-count.ensures.reads
    (filled_err _ _ _ c.from_residual.ensures.1)

pub returns-in_err-names-clause-reads : goal.returns-in_err-names-clause-reads
returns-in_err-names-clause-reads g c =
    stops _ (go _ (start text.atom_names _) c.in_ok-count.ensures.reads)
    c.in_err-names.ensures.reads (filled_err _ _ _ c.from_residual-in_err-names.ensures.1)
