use Rattle.hv_grammar.proofs.Going.{filled_err, go, start, stops}
use Rattle.hv_task.specs.Strips.{atoms}
use Rattle.hv_task_text.specs.TaskFile as text
use Rattle.hv_task_text.proofs.Listed.{closed}
use Rattle.hv_task_text.proofs.read.all_actions.Goals as goal

pub returns-clause-reads : goal.returns-clause-reads
returns-clause-reads g c =
    closed c.actions.new.task.actions c.word_line.result
    (go _ (go _ (start (text.all_actions (atoms c.args.task.now)) _)
    c.in_ok-count.ensures.reads) c.in_ok-actions.ensures.reads) c.word_line.ensures

pub returns-in_err-count-clause-reads : goal.returns-in_err-count-clause-reads
returns-in_err-count-clause-reads g c =
    stops _ (start (text.all_actions (atoms c.args.task.now)) _) c.in_err-count.ensures.reads
    (filled_err _ _ _ c.from_residual.ensures.1)

pub returns-in_err-actions-clause-reads : goal.returns-in_err-actions-clause-reads
returns-in_err-actions-clause-reads g c =
    stops _ (go _ (start (text.all_actions (atoms c.args.task.now)) _) c.in_ok-count.ensures.reads)
    c.in_err-actions.ensures.reads (filled_err _ _ _ c.from_residual-in_err-actions.ensures.1)
