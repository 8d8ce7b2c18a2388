-- Runs, plans, traversed states and dead states (Eriksson, Röger and Helmert, 2018).
use Rattle.std.specs.Prelude.{◌≡◌, ℕ, Bool, true, List, [], ◌∷◌, ◌++◌, Option, Some, None, cond}
use Rattle.std.specs.Prelude.{slice_get}
use Rattle.hv_task.specs.declared.action.Action.{Action}
use Rattle.hv_task.specs.State.{applicable, successor}
use Rattle.hv_task.specs.Strips.{Strips, start_state, is_goal}

-- the state after this action, or none where there is no such action or it isn't applicable
abbrev pub step_of : Option Action → List Bool → Option (List Bool)
step_of None state = None
step_of (Some action) state = cond (applicable action state) (Some (successor action state)) None

-- what is done with the state, where there is one
abbrev pub go_on : (List Bool → Option (List Bool)) → Option (List Bool) → Option (List Bool)
go_on more None = None
go_on more (Some state) = more state

-- the state that the list of action numbers leads to from this state, each applicable in turn
abbrev pub run_of : Strips → List ℕ → List Bool → Option (List Bool)
run_of task [] state = Some state
run_of task (number ∷ numbers) state = go_on (run_of task numbers)
    (step_of (slice_get task.actions number) state)

-- the list is a plan: it leads from the initial state to a state that holds the whole goal
abbrev pub Solves : Strips → List ℕ → Type 0
Solves task list = (last : List Bool) × (run_of task list (start_state task) ≡ Some last)
    × (is_goal task last ≡ true)

-- the run of some beginning of the list from the initial state ends in this state
abbrev pub Traverses : Strips → List ℕ → List Bool → Type 0
Traverses task list state =
    (front : List ℕ) × (rest : List ℕ) × (front ++ rest ≡ list)
    × (run_of task front (start_state task) ≡ Some state)

-- no plan traverses the state
abbrev pub Dead : Strips → List Bool → Type 0
Dead task state = (list : List ℕ) → Solves task list → Traverses task list state → ⊥

-- no list of actions is a plan
abbrev pub IsUnsolvable : Strips → Type 0
IsUnsolvable task = (list : List ℕ) → Solves task list → ⊥
