use Rattle.std.proofs.Common.{◌∙◌, ℕ, List, ap, sym}
use Rattle.hv_grammar.proofs.Going.{filled_err, stop_last}
use Rattle.hv_task.specs.Strips.{Strips, atoms}
use Rattle.hv_task_text.specs.TaskFile as text
use Rattle.hv_task_text.proofs.Listed.{named_as, value_as}
use Rattle.hv_task_text.proofs.read.put_start.Goals as goal

pub returns-in_err-start-clause-reads : goal.returns-in_err-start-clause-reads
returns-in_err-start-clause-reads g c =
    stop_last (text.start_atoms (atoms c.args.task.now)) _ _ _ _
    (named_as text.start_atoms c.atoms.ensures.atoms c.in_err-start.ensures.reads)
    (filled_err _ _ _ c.from_residual.ensures.1)

pub returns-clause-reads : goal.returns-clause-reads
returns-clause-reads g c =
    value_as (ap (λ (t : Strips). t.start) c.set_start.ensures)
    (named_as text.start_atoms c.atoms.ensures.atoms c.in_ok-start.ensures.reads)

pub returns-clause-task : goal.returns-clause-task
returns-clause-task g c =
    c.set_start.ensures ∙ ap (λ (s : List ℕ). record c.args.task.now { start = s })
    (sym (ap (λ (t : Strips). t.start) c.set_start.ensures))
