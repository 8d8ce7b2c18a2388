use Rattle.std.proofs.Common.{◌∷◌, [], ◌∙◌, ap, length, length-append}
use Rattle.hv_grammar.specs.Parsers.{one_more}
use Rattle.hv_grammar.proofs.Going.{done, filled_err, no_memory, start}
use Rattle.hv_task.specs.Strips.{Strips, atoms}
use Rattle.hv_task_text.specs.TaskFile as text
use Rattle.hv_task_text.proofs.Listed.{go_as, stops_as}
use Rattle.hv_task_text.proofs.read.one_action.Goals as goal

pub returns-in_err-action-clause-reads : goal.returns-in_err-action-clause-reads
returns-in_err-action-clause-reads g c =
    stops_as text.action _ c.atoms.ensures.atoms
    (start (one_more (text.action (atoms c.args.task.now)) c.args.task.now.actions) _)
    c.in_err-action.ensures.reads (filled_err _ _ _ c.from_residual.ensures.1)

pub returns-in_err-add_action-clause-reads : goal.returns-in_err-add_action-clause-reads
returns-in_err-add_action-clause-reads g c =
    no_memory _ _ _ _ _ (go_as text.action _ c.atoms.ensures.atoms
    (start (one_more (text.action (atoms c.args.task.now)) c.args.task.now.actions) _)
    c.in_ok-action.ensures.reads)
    (filled_err _ _ _ c.from_residual-in_err-add_action.ensures.1)

pub returns-clause-reads : goal.returns-clause-reads
returns-clause-reads g c =
    done _ _ _ _ _ (go_as text.action _ c.atoms.ensures.atoms
    (start (one_more (text.action (atoms c.args.task.now)) c.args.task.now.actions) _)
    c.in_ok-action.ensures.reads)
    c.in_ok-action.ensures.reads.can
    (ap (λ (t : Strips). t.actions) c.in_ok-add_action.ensures.ok)

pub returns-clause-count : goal.returns-clause-count
returns-clause-count g c =
    ap (λ (t : Strips). length t.actions) c.in_ok-add_action.ensures.ok
    ∙ length-append c.args.task.now.actions (_ ∷ [])
