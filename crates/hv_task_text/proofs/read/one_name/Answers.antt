use Rattle.std.proofs.Common.{◌∷◌, [], ◌∙◌, ap, length, length-append}
use Rattle.hv_grammar.specs.Parsers.{one_more}
use Rattle.hv_grammar.proofs.Going.{done, filled_err, go, no_memory, start, stops}
use Rattle.hv_task.specs.Strips.{Strips}
use Rattle.hv_task_text.specs.TaskFile as text
use Rattle.hv_task_text.specs.declared.fault.TaskKind.TheVariants as K
use Rattle.hv_task_text.proofs.read.one_name.Goals as goal

pub returns-in_err-name-clause-reads : goal.returns-in_err-name-clause-reads
returns-in_err-name-clause-reads g c =
    stops _ (start (one_more (text.line_of_name K.AtomName) c.args.task.now.names) _)
    c.in_err-name.ensures (filled_err _ _ _ c.from_residual.ensures.1)

pub returns-in_err-add_atom-clause-reads : goal.returns-in_err-add_atom-clause-reads
returns-in_err-add_atom-clause-reads g c =
    no_memory _ _ _ _ _
    (go _ (start (one_more (text.line_of_name K.AtomName) c.args.task.now.names) _)
    c.in_ok-name.ensures)
    (filled_err _ _ _ c.from_residual-in_err-add_atom.ensures.1)

pub returns-clause-reads : goal.returns-clause-reads
returns-clause-reads g c =
    done _ _ _ _ _ (go _
    (start (one_more (text.line_of_name K.AtomName) c.args.task.now.names) _)
    c.in_ok-name.ensures)
    c.in_ok-name.ensures.can (ap (λ (t : Strips). t.names) c.in_ok-add_atom.ensures.ok)

pub returns-clause-count : goal.returns-clause-count
returns-clause-count g c =
    ap (λ (t : Strips). length t.names) c.in_ok-add_atom.ensures.ok
    ∙ length-append c.args.task.now.names (_ ∷ [])
