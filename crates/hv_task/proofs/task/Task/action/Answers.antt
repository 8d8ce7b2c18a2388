use Rattle.std.proofs.Common.{length}
use Rattle.hv_task.proofs.Tasks.{IsOver-item}
use Rattle.hv_task.proofs.task.Task.action.Goals as goal

pub returns-clause-over : goal.returns-clause-over
returns-clause-over c =
    let within = rw (← c.self.view_is) at c.requires in
    rw (← c.self.view_is)
    (IsOver-item (length c.self.inside.names.items) c.self.inside.actions.items c.args.number
    c.index.result.now
    c.self.invariant.actions within c.index.ensures)
