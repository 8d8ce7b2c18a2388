-- A planning task in STRIPS form, as contracts see a `Task`.
use Rattle.std.specs.Prelude.{◌≡◌, ◌≤◌, ℕ, Bool, List, length}
use Rattle.std.specs.List.{All}
use Rattle.std.specs.List.Sorted.{IsStrictlyIncreasing}
use Rattle.hv_task.specs.declared.action.Action.{Action}
use Rattle.hv_task.specs.State.{AreBelow, has_all, state_of}

-- a task: its atoms, by their names, its initial state, its goal and its actions
pub record Strips : Type 0 where
  -- the name of each atom, as bytes: the atoms are the numbers below the length of this list
  pub names : List (List ℕ)
  -- the atoms that are true at the start, rising
  pub start : List ℕ
  -- the atoms that the goal asks for, rising
  pub goal : List ℕ
  -- the actions, by number
  pub actions : List Action

-- how many atoms the task has
abbrev pub atoms : Strips → ℕ
atoms task = length task.names

-- a state of the task: one flag for each atom
abbrev pub IsState : Strips → List Bool → Type 0
IsState task state = length state ≡ atoms task

-- the action speaks of atoms below this number alone
pub record IsOver (bound : ℕ) (action : Action) : Type 0 where
  pub pre : AreBelow bound action.pre
  pub add : AreBelow bound action.add
  pub del : AreBelow bound action.del

-- what every task keeps: its lists name its own atoms, those of the start and the goal rise, and it
-- is within the limits
pub record IsTask (task : Strips) : Type 0 where
  pub start : AreBelow (length task.names) task.start
  pub start_rises : IsStrictlyIncreasing task.start
  pub goal : AreBelow (length task.names) task.goal
  pub goal_rises : IsStrictlyIncreasing task.goal
  pub actions : All (IsOver (length task.names)) task.actions
  pub few_atoms : length task.names ≤ 65535
  pub few_actions : length task.actions ≤ 1000000

-- the initial state
abbrev pub start_state : Strips → List Bool
start_state task = state_of (atoms task) task.start

-- the state holds the whole goal
abbrev pub is_goal : Strips → List Bool → Bool
is_goal task state = has_all task.goal state
