-- What a list of action numbers is against a task: a plan, with its cost, or one whose first step
-- that can't be taken is this one, or a list that leads to no goal state.
use Rattle.std.specs.Prelude.{◌≡◌, ℕ, ◌+◌, ◌++◌, Bool, false, List, ◌∷◌, Some, None, length}
use Rattle.std.specs.Prelude.{slice_get}
use Rattle.hv_task.specs.declared.action.Action.{Action}
use Rattle.hv_task.specs.State.{applicable}
use Rattle.hv_task.specs.Strips.{Strips, is_goal, start_state}
use Rattle.hv_task.specs.Plan.{Solves, run_of}
use Rattle.hv_bound.specs.declared.plan_check.PlanAnswer.{PlanAnswer}
use Rattle.hv_bound.specs.declared.plan_check.PlanAnswer.TheVariants as A
use Rattle.hv_bound.specs.Costs.{cost_of_list}

-- The steps before this one, counted from 1, can be taken from the initial state, and lead to this
-- state; the step itself names this number.
pub record ReachesStep (task : Strips) (list : List ℕ) (step : ℕ) (state : List Bool) (number : ℕ)
    : Type 0
  where
    pub before : List ℕ
    pub rest : List ℕ
    pub cut : before ++ number ∷ rest ≡ list
    pub counted : step ≡ length before + 1
    pub run : run_of task before (start_state task) ≡ Some state

-- what the list is
abbrev pub IsPlanAnswer : Strips → List ℕ → PlanAnswer → Type 0
IsPlanAnswer task list (A.Cost cost) = Solves task list × (cost ≡ cost_of_list task list)
IsPlanAnswer task list (A.Unknown step) =
    (state : List Bool) × (number : ℕ) × ReachesStep task list step state number
    × (slice_get task.actions number ≡ None)
IsPlanAnswer task list (A.NotApplicable step) =
    (state : List Bool) × (number : ℕ) × (action : Action)
    × ReachesStep task list step state number × (slice_get task.actions number ≡ Some action)
    × (applicable action state ≡ false)
IsPlanAnswer task list A.NoGoal =
    (last : List Bool) × (run_of task list (start_state task) ≡ Some last)
    × (is_goal task last ≡ false)
