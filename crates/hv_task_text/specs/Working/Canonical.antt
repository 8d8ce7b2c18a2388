-- Working definitions beside those of `Canonical`: for private contracts and proofs.
use Rattle.std.specs.Prelude.{◌≤◌}
use Rattle.std.specs.List.Sorted.{IsStrictlyIncreasing}
use Rattle.hv_task.specs.declared.action.Action.{Action}

-- what every action of a task in the program keeps: its cost is a number of 32 bits, and its sets
-- rise
pub record IsStored (action : Action) : Type 0 where
  pub cost : action.cost ≤ 4294967295
  pub pre : IsStrictlyIncreasing action.pre
  pub add : IsStrictlyIncreasing action.add
  pub del : IsStrictlyIncreasing action.del
