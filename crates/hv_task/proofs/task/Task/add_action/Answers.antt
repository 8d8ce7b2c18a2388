use Rattle.hv_task.proofs.Tasks.{IsTask-add_action}
use Rattle.hv_task.proofs.task.Task.add_action.Goals as goal

pub invariant_of-self-2 : goal.invariant_of-self-2
invariant_of-self-2 c =
    let over = rw (← c.self.view_is) at c.requires.over in
    let room = rw (← c.self.view_is) at c.requires.room in
    rw c.in_ok-push.ensures.items (IsTask-add_action _ c.args.action c.self.invariant over room)
