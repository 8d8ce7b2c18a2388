use Rattle.hv_grammar.proofs.Going.{stop_last}
use Rattle.hv_task_text.specs.TaskFile as text
use Rattle.hv_task_text.proofs.read.whole.Goals as goal

pub returns-in_err-parts : goal.returns-in_err-parts
returns-in_err-parts g c =
    stop_last text.task_file _ _ _ _ c.in_err-parts.ensures c.from_residual.ensures.1

pub returns : goal.returns
returns g c = c.in_ok-parts.ensures
