-- Working definitions beside those of `ClosingLines`: for private contracts and proofs.
use Rattle.std.specs.Prelude.{◌≡◌, ◌≤◌, ◌⊎◌, ℕ, Bool, true, List, Some, length, slice_get}
use Rattle.std.specs.List.{All}
use Rattle.hv_task.specs.declared.action.Action.{Action}
use Rattle.hv_task.specs.State.{applicable, successor}
use Rattle.hv_task.specs.Strips.{Strips, atoms, is_goal, start_state}
use Rattle.hv_sets.specs.Truth.{InStates}
use Rattle.hv_lines.specs.Drafts.{default_budget}
use Rattle.hv_lines.specs.Meaning.{SetOfStates}
use Rattle.hv_replay.specs.Logs.{IsAtomSet}

-- the search is closed: these expanded states, together with the pruned ones, are left by no
-- action, no expanded one holds the goal, and the initial state is one of them all
pub record IsClosedSearch (task : Strips) (states : List (List ℕ))
    (pruned : SetOfStates) : Type 0 where
  pub atom_sets : All (IsAtomSet (atoms task)) states
  pub few : length states ≤ default_budget
  pub leads : (k : ℕ) (a : Action) → slice_get task.actions k ≡ Some a → (state : List Bool)
      → InStates (atoms task) states state → applicable a state ≡ true
      → InStates (atoms task) states (successor a state) ⊎ pruned (successor a state)
  pub goalless : (state : List Bool) → InStates (atoms task) states state
      → is_goal task state ≡ true → ⊥
  pub starts : InStates (atoms task) states (start_state task) ⊎ pruned (start_state task)
