use Rattle.hv_task.proofs.Tasks.{IsTask-add_atom}
use Rattle.hv_task.proofs.task.Task.add_atom.Goals as goal

pub invariant_of-self-2 : goal.invariant_of-self-2
invariant_of-self-2 c =
    let room = rw (← c.self.view_is) at c.requires in
    rw c.in_ok-push.ensures.items (IsTask-add_atom _ c.args.name c.self.invariant room)
