use Rattle.std.proofs.Common.{ap, ◌∙◌}
use Rattle.hv_grammar.proofs.Lined.{line_read}
use Rattle.hv_task_text.specs.TaskFile.{item_or}
use Rattle.hv_task_text.proofs.read.item_line.Goals as goal

pub returns-clause-reads : goal.returns-clause-reads
returns-clause-reads g c =
    line_read _ _ _ _ _ _ c.in_ok-next_line.ensures
    (c.item_or.ensures.said ∙ ap (λ l. item_or c.args.atoms l) c.line.ensures) c.at_line.ensures
