use Rattle.std.proofs.Common.{length}
use Rattle.hv_task.proofs.Turned.{row_within}
use Rattle.hv_task.proofs.action_words.ActionWords.applicable.Goals as goal

pub returns : goal.returns
returns c = λ action over rows.
    row_within (length c.args.state.now) action.pre c.args.self.now.pre c.args.state.now over.pre
    rows.pre c.is_within.result c.is_within.ensures
