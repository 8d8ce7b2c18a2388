-- Space for states while conjunctions are taken out.
use Rattle.hv_task.specs.Strips.{Strips, IsState}
use Rattle.hv_trap.specs.declared.sweep.SweepState.{SweepState}

-- both are states of the task
pub record HasStates (task : Strips) (room : SweepState) : Type 0 where
  pub before : IsState task room.before
  pub after : IsState task room.after
