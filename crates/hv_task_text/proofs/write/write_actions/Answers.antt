use Rattle.hv_task_text.specs.Canonical.{bytes_of_lines, entry_of}
use Rattle.hv_task_text.specs.Working.Canonical.{IsStored}
use Rattle.hv_task_text.specs.Written.{entry_lines}
use Rattle.hv_task_text.proofs.Appended.{each_more, written_more}
use Rattle.hv_task_text.proofs.write.write_actions.Goals as goal

pub loop-number-preserved : goal.loop-number-preserved
loop-number-preserved c = (
  written_more (λ action. bytes_of_lines (entry_lines (entry_of action))) c.args.text.now
      c.loop-number.text c.write_action.new.text c.args.task.now.actions c.loop-number.number
      c.action.result.now c.action.ensures.named c.loop-number.invariant.0
      c.in_ok-write_action.ensures.text,
  each_more IsStored c.args.task.now.actions c.loop-number.number c.action.result.now
      c.action.ensures.named c.loop-number.invariant.1 c.in_ok-write_action.ensures.stored,
)
