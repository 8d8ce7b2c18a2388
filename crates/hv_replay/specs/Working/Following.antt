-- What the search for the first hole of a log asks and answers.
use Rattle.std.specs.Prelude.{◌≡◌, ◌<◌, ℕ, Bool, true, List, Option, Result, Ok, Err, Some, map}
use Rattle.std.specs.Prelude.{MatchOption, length, slice_get}
use Rattle.std.specs.List.{All}
use Rattle.hv_task.specs.declared.action.Action.{Action}
use Rattle.hv_task.specs.State.{applicable, state_of, successor}
use Rattle.hv_task.specs.Strips.{Strips, atoms}
use Rattle.hv_explicit.specs.ListedStates.{ListedStates, in_listing}
use Rattle.hv_replay.specs.Closed.{IsFirstHole, IsFirstWithout, IsSearchFollowed, LeadsOn}
use Rattle.hv_replay.specs.Logs.{LogEntry, SearchLog, StandsInLog}
use Rattle.hv_replay.specs.declared.hole.ReplayFault.{ReplayFault}
use Rattle.hv_replay.specs.declared.hole.ReplayFault.TheVariants as H
use Rattle.hv_replay.specs.declared.origin.Origin.{Origin}

-- the set has just the states of the log
pub record ListsLog (log : SearchLog) (set : ListedStates) : Type 0 where
  pub over : set.atoms ≡ log.atoms
  pub states : set.states ≡ map (λ (entry : LogEntry). entry.state) log.entries

-- where the action of this number is applicable in the state, its result is in the set
abbrev pub StaysListed : Strips → ListedStates → List Bool → ℕ → Type 0
StaysListed task set state number =
    (action : Action) → slice_get task.actions number ≡ Some action
    → applicable action state ≡ true → in_listing set (successor action state) ≡ true

-- where the action of this number is applicable in the state from which it is asked, its result is
-- listed
abbrev pub StaysFrom : Origin → ℕ → Type 0
StaysFrom origin number =
    StaysListed origin.task.now origin.listed.now
    (state_of (atoms origin.task.now) origin.held.now) number

-- the entry at this place is an expanded state of these atoms
abbrev pub HasExpanded : SearchLog → ℕ → List ℕ → Type 0
HasExpanded log place held =
    (entry : LogEntry) × StandsInLog log place entry × (entry.expanded ≡ true)
    × (entry.state ≡ held)

-- from the entries at these places every action leads on
abbrev pub LeadAllOn : Strips → SearchLog → List ℕ → Type 0
LeadAllOn task log places = All (λ place. (action : ℕ) → LeadsOn task log place action) places

-- the first place from which an action leads out of the log, and the least such action there; there
-- is none where every action leads on
abbrev pub IsOpen : Strips → SearchLog → Option (ℕ × ℕ) → Type 0
IsOpen task log found =
    MatchOption found
    ((place action : ℕ) → place < length log.entries → LeadsOn task log place action)
    (λ found. (found.0 < length log.entries)
    × IsFirstWithout (LeadsOn task log found.0) found.1
    × ((before action : ℕ) → before < found.0 → LeadsOn task log before action))

-- what is answered of a log: that its search is followed to its end, or the first hole that it has
-- even where every state is covered; running out of memory is free
abbrev pub Follows : Result (Unit {0}) ReplayFault → Strips → SearchLog → Type 0
Follows (Ok _) task log = IsSearchFollowed task log
Follows (Err H.Memory) task log = Unit {0}
Follows (Err fault) task log = IsFirstHole task log (λ _. Unit {0}) fault
