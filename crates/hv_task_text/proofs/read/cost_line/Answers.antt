use Rattle.std.proofs.Common.{ap, ◌∙◌}
use Rattle.std.specs.Prelude.{codes}
use Rattle.hv_grammar.specs.Forms.{numbered_in}
use Rattle.hv_grammar.proofs.Lined.{line_read}
use Rattle.hv_task_text.specs.declared.fault.TaskKind.TheVariants as K
use Rattle.hv_task_text.specs.declared.fault.TaskLimit.TheVariants as W
use Rattle.hv_task_text.specs.declared.fault.TaskRefusal.TheVariants as R
use Rattle.hv_task_text.proofs.read.cost_line.Goals as goal

pub returns-clause-reads : goal.returns-clause-reads
returns-clause-reads g c =
    line_read _ _ _ _ _ _ c.in_ok-next_line.ensures
    (c.cost_in.ensures.said ∙ ap (λ l. numbered_in (codes "cost:") 4294967295 (R.Place K.Cost)
    (R.Limit W.Cost) l) c.line.ensures) c.at_line.ensures
