-- Costs of lists of actions, and tasks that are solvable within a cost.
use Rattle.std.specs.Prelude.{ℕ, ◌≤◌, List, Option, None, Some, slice_get, sum_by}
use Rattle.hv_task.specs.declared.action.Action.{Action}
use Rattle.hv_task.specs.Strips.{Strips}
use Rattle.hv_task.specs.Plan.{Solves}

-- the cost of an action, where there is one
abbrev pub cost_at : Option Action → ℕ
cost_at None = 0
cost_at (Some action) = action.cost

-- the cost of a list of action numbers: the sum of the costs of its actions
abbrev pub cost_of_list : Strips → List ℕ → ℕ
cost_of_list task list = sum_by (λ number. cost_at (slice_get task.actions number)) list

-- some list is a plan
abbrev pub IsSolvable : Strips → Type 0
IsSolvable task = (list : List ℕ) × Solves task list

-- some list that costs at most so much is a plan
abbrev pub IsSolvableWithin : ℕ → Strips → Type 0
IsSolvableWithin most task = (list : List ℕ) × Solves task list × (cost_of_list task list ≤ most)
