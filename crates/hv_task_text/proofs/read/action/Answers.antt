use Rattle.hv_grammar.proofs.Going.{go, last, start, stops}
use Rattle.hv_task_text.specs.TaskFile as text
use Rattle.hv_task_text.proofs.read.action.Goals as goal

pub returns-in_err-cost-clause-reads : goal.returns-in_err-cost-clause-reads
returns-in_err-cost-clause-reads g c =
    stops _ (go _ (go _ (start (text.action c.args.atoms) _) c.in_ok-begin_action.ensures)
    c.in_ok-name.ensures) c.in_err-cost.ensures.reads c.from_residual-in_err-cost.ensures.1

pub returns-clause-reads : goal.returns-clause-reads
returns-clause-reads g c =
    last _ _ _ _ _ _ (go _ (go _ (go _ (start (text.action c.args.atoms) _)
    c.in_ok-begin_action.ensures) c.in_ok-name.ensures) c.in_ok-cost.ensures.reads)
    c.action_lists.ensures.reads

pub returns-in_err-begin_action-clause-reads : goal.returns-in_err-begin_action-clause-reads
returns-in_err-begin_action-clause-reads g c =
    stops _ (start (text.action c.args.atoms) _) c.in_err-begin_action.ensures
    c.from_residual.ensures.1

pub returns-in_err-name-clause-reads : goal.returns-in_err-name-clause-reads
returns-in_err-name-clause-reads g c =
    stops _ (go _ (start (text.action c.args.atoms) _) c.in_ok-begin_action.ensures)
    c.in_err-name.ensures c.from_residual-in_err-name.ensures.1
