-- Dead sets of states, and what the rules of progression and of regression ask of two sets
-- (Eriksson, Röger and Helmert, 2018).
use Rattle.std.specs.Prelude.{◌≡◌, ◌⊎◌, ℕ, Bool, true, List, slice_get, Some}
use Rattle.hv_task.specs.declared.action.Action.{Action}
use Rattle.hv_task.specs.State.{applicable, successor}
use Rattle.hv_task.specs.Strips.{Strips, IsState, start_state, is_goal}
use Rattle.hv_task.specs.Plan.{Dead}

-- each state of the set is dead
abbrev pub AreDead : Strips → (List Bool → Type 0) → Type 0
AreDead task Set = (state : List Bool) → IsState task state → Set state → Dead task state

-- no action leads from a state of the one set to a state outside the other
abbrev pub Leads : Strips → (List Bool → Type 0) → (List Bool → Type 0) → Type 0
Leads task From To =
    (state : List Bool) (number : ℕ) (action : Action) → IsState task state
    → slice_get task.actions number ≡ Some action
    → applicable action state ≡ true → From state → (To (successor action state) → ⊥) → ⊥

-- no action leads to a state of the one set from a state outside the other
abbrev pub LeadsBack : Strips → (List Bool → Type 0) → (List Bool → Type 0) → Type 0
LeadsBack task To From =
    (state : List Bool) (number : ℕ) (action : Action) → IsState task state
    → slice_get task.actions number ≡ Some action
    → applicable action state ≡ true → To (successor action state) → (From state → ⊥) → ⊥

-- In the laws below a set of states is given by a test.

-- the states that pass a test
abbrev pub Passing : (List Bool → Bool) → List Bool → Type 0
Passing test state = test state ≡ true

-- the states that don't pass it
abbrev pub Failing : (List Bool → Bool) → List Bool → Type 0
Failing test state = test state ≡ true → ⊥

-- the states that pass the one test or the other
abbrev pub PassingEither : (List Bool → Bool) → (List Bool → Bool) → List Bool → Type 0
PassingEither first second state = Passing first state ⊎ Passing second state

-- the goal states of a set
abbrev pub GoalsAmong : Strips → (List Bool → Type 0) → List Bool → Type 0
GoalsAmong task Set state = Set state × (is_goal task state ≡ true)

-- progression: a set is dead if each step from it leads into it or to dead states, and its goal
-- states are dead
abbrev pub Progression : Strips → Type 0
Progression task =
    (set others : List Bool → Bool) → Leads task (Passing set) (PassingEither set others)
    → AreDead task (Passing others)
    → AreDead task (GoalsAmong task (Passing set)) → AreDead task (Passing set)

-- regression: the states outside a set are dead if each step into it comes from it or from dead
-- states, and the goal states outside it are dead
abbrev pub Regression : Strips → Type 0
Regression task =
    (set others : List Bool → Bool) → LeadsBack task (Passing set) (PassingEither set others)
    → AreDead task (Passing others)
    → AreDead task (GoalsAmong task (Failing set)) → AreDead task (Failing set)

-- progression from the initial state: the states outside a set are dead if it holds the initial
-- state, and each step from it leads into it or to dead states
abbrev pub ProgressionFromStart : Strips → Type 0
ProgressionFromStart task =
    (set others : List Bool → Bool) → Leads task (Passing set) (PassingEither set others)
    → AreDead task (Passing others)
    → Passing set (start_state task) → AreDead task (Failing set)

-- regression to the initial state: a set is dead if the initial state is outside it, and each step
-- into it comes from it or from dead states
abbrev pub RegressionToStart : Strips → Type 0
RegressionToStart task =
    (set others : List Bool → Bool) → LeadsBack task (Passing set) (PassingEither set others)
    → AreDead task (Passing others)
    → Failing set (start_state task) → AreDead task (Passing set)

-- every goal state is dead
abbrev pub HasDeadGoals : Strips → Type 0
HasDeadGoals task = AreDead task (λ state. is_goal task state ≡ true)
