-- Closed logs, and the first hole of one that isn't. Lines are numbered from 1: the entry at place
-- i is that of line i + 1.
use Rattle.std.specs.Prelude.{◌≡◌, ◌<◌, ◌+◌, ℕ, Bool, true, false, List, slice_get, Some}
use Rattle.hv_task.specs.declared.action.Action.{Action}
use Rattle.hv_task.specs.State.{applicable, state_of, successor}
use Rattle.hv_task.specs.Strips.{Strips, is_goal, start_state}
use Rattle.hv_lines.specs.Meaning.{SetOfStates}
use Rattle.hv_replay.specs.Logs.{LogEntry, SearchLog, StandsInLog}
use Rattle.hv_replay.specs.declared.hole.ReplayFault.{ReplayFault}
use Rattle.hv_replay.specs.declared.hole.ReplayFault.TheVariants as H

-- the state of an entry
abbrev pub state_in : SearchLog → LogEntry → List Bool
state_in log entry = state_of log.atoms entry.state

-- the state is listed: as expanded, as pruned, or as both
abbrev pub IsLogged : SearchLog → List Bool → Type 0
IsLogged log state =
    (place : ℕ) × (entry : LogEntry) × StandsInLog log place entry × (state_in log entry ≡ state)

-- an expanded state at this place doesn't hold the goal
abbrev pub IsGoalFree : Strips → SearchLog → ℕ → Type 0
IsGoalFree task log place =
    (entry : LogEntry) → StandsInLog log place entry → entry.expanded ≡ true
    → is_goal task (state_in log entry) ≡ false

-- where the action is applicable in an expanded state at this place, its result is listed
abbrev pub LeadsOn : Strips → SearchLog → ℕ → ℕ → Type 0
LeadsOn task log place number =
    (entry : LogEntry) (action : Action) → StandsInLog log place entry → entry.expanded ≡ true
    → slice_get task.actions number ≡ Some action
    → applicable action (state_in log entry) ≡ true
    → IsLogged log (successor action (state_in log entry))

-- a pruned state at this place is covered
abbrev pub IsJustified : SearchLog → SetOfStates → ℕ → Type 0
IsJustified log covered place =
    (entry : LogEntry) → StandsInLog log place entry → entry.expanded ≡ false
    → covered (state_in log entry)

-- the search is followed to its end, but for its pruned states: the initial state is listed, no
-- expanded state holds the goal, and each result of an applicable action in an expanded state is
-- listed
pub record IsSearchFollowed (task : Strips) (log : SearchLog) : Type 0 where
  pub initial : IsLogged log (start_state task)
  pub goalless : (place : ℕ) → IsGoalFree task log place
  pub leads : (place number : ℕ) → LeadsOn task log place number

-- the log is closed: it is followed, and each pruned state is covered
pub record IsClosed (task : Strips) (log : SearchLog) (covered : SetOfStates) : Type 0 where
  pub followed : IsSearchFollowed task log
  pub justified : (place : ℕ) → IsJustified log covered place

-- the first number of which this doesn't hold
abbrev pub IsFirstWithout : (ℕ → Type 0) → ℕ → Type 0
IsFirstWithout Holds number = (Holds number → ⊥) × ((before : ℕ) → before < number → Holds before)

-- the first hole of a log: the first sentence that fails, in this order, with its first line; and
-- for an open action the least one there
abbrev pub IsFirstHole : Strips → SearchLog → SetOfStates → ReplayFault → Type 0
IsFirstHole task log covered H.NoInitial = IsLogged log (start_state task) → ⊥
IsFirstHole task log covered (H.GoalExpanded line) =
    IsLogged log (start_state task)
    × (place : ℕ) × (line ≡ place + 1) × IsFirstWithout (IsGoalFree task log) place
IsFirstHole task log covered (H.Open line action) =
    IsLogged log (start_state task) × ((place : ℕ) → IsGoalFree task log place)
    × (place : ℕ) × (line ≡ place + 1) × IsFirstWithout (LeadsOn task log place) action
    × ((before number : ℕ) → before < place → LeadsOn task log before number)
IsFirstHole task log covered (H.Unjustified line) =
    IsSearchFollowed task log
    × (place : ℕ) × (line ≡ place + 1) × IsFirstWithout (IsJustified log covered) place
IsFirstHole task log covered H.Memory = ⊥
