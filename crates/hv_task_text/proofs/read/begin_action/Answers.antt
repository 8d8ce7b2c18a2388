use Rattle.std.proofs.Common.{ap, ◌∙◌}
use Rattle.std.specs.Prelude.{codes}
use Rattle.hv_grammar.specs.Forms.{is_word}
use Rattle.hv_grammar.proofs.Lined.{line_read}
use Rattle.hv_task_text.specs.declared.fault.TaskKind.TheVariants as K
use Rattle.hv_task_text.specs.declared.fault.TaskRefusal.TheVariants as R
use Rattle.hv_task_text.proofs.read.begin_action.Goals as goal

pub returns : goal.returns
returns g c =
    line_read _ _ _ _ _ _ c.in_ok-next_line.ensures
    (c.begins_action.ensures
    ∙ ap (λ l. is_word (codes "begin_action") (R.Place K.BeginAction) l) c.line.ensures)
    c.at_line.ensures
