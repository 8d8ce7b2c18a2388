-- How far a log leads on: the sets of its states, and what is asked of them.
use Rattle.std.specs.Prelude.{◌≡◌, ◌<◌, ◌≤◌, ℕ, Bool, true, false, List, [], ◌∷◌, Some, length}
use Rattle.std.specs.Prelude.{slice_get}
use Rattle.std.specs.List.{Contains}
use Rattle.hv_task.specs.declared.action.Action.{Action}
use Rattle.hv_task.specs.State.{applicable, successor}
use Rattle.hv_task.specs.Strips.{Strips, atoms}
use Rattle.hv_sets.specs.declared.operand.Operand.{Operand}
use Rattle.hv_sets.specs.declared.operand.Which.TheVariants as W
use Rattle.hv_explicit.specs.ListedStates.{AreListsOver, ListedStates, in_set}
use Rattle.hv_replay.specs.Closed.{LeadsOn, state_in}
use Rattle.hv_replay.specs.Logs.{LogEntry, SearchLog, StandsInLog}
use Rattle.hv_replay.specs.Working.Following.{ListsLog}
use Rattle.hv_replay.specs.declared.leading.LogPart.{LogPart}
use Rattle.hv_replay.specs.declared.log_query.LogQuery.{LogQuery}

-- the sets are sets of states of the log's task, and the first one has just the states of the log
pub record HasLog (log : SearchLog) (sets : List ListedStates) : Type 0 where
  pub some : 0 < length sets
  pub over : AreListsOver sets log.atoms
  pub first : (set : ListedStates) → slice_get sets 0 ≡ Some set → ListsLog log set

-- it is a part of the log
pub record IsLogPart (log : SearchLog) (part : LogPart) : Type 0 where
  pub order : part.from ≤ part.upto
  pub within : part.upto ≤ length log.entries

-- it is a part of the log, and from the entries before it every action leads on
pub record IsOpenPart (task : Strips) (log : SearchLog) (part : LogPart) : Type 0 where
  pub inside : IsLogPart log part
  pub before : (place action : ℕ) → place < part.from → LeadsOn task log place action

-- from the entries of the part every action leads on
abbrev pub LeadOnIn : Strips → SearchLog → LogPart → Type 0
LeadOnIn task log part =
    (place action : ℕ) → part.from ≤ place → place < part.upto → LeadsOn task log place action

-- the list has each expanded state of the part
abbrev pub ListsExpanded : SearchLog → LogPart → List (List ℕ) → Type 0
ListsExpanded log part states =
    (place : ℕ) (entry : LogEntry) → part.from ≤ place → place < part.upto
    → StandsInLog log place entry → entry.expanded ≡ true → Contains states entry.state

-- the set of this number has each expanded state of the part
abbrev pub SetHasExpanded : SearchLog → List ListedStates → ℕ → LogPart → Type 0
SetHasExpanded log sets number part =
    (place : ℕ) (entry : LogEntry) → part.from ≤ place → place < part.upto
    → StandsInLog log place entry → entry.expanded ≡ true
    → in_set sets number (state_in log entry) ≡ true

-- the action of this number leads from each state of a set, where it is applicable, to one of the
-- first set
abbrev pub StaysInFirst : Strips → List ListedStates → ℕ → ℕ → Type 0
StaysInFirst task sets number acting =
    (state : List Bool) (action : Action) → length state ≡ atoms task
    → in_set sets number state ≡ true → slice_get task.actions acting ≡ Some action
    → applicable action state ≡ true → in_set sets 0 (successor action state) ≡ true

-- the set of this number, asked about after the action (true) or before it
abbrev pub set_asked : ℕ → Bool → Operand
set_asked number after = record { which = W.Set number; id = number; after = after }

-- the query asks for a state of the set that is named from which the action leads to one that isn't
-- in the first set
pub record IsLogQuery (asking : LogQuery) : Type 0 where
  pub positive : asking.query.positive ≡ set_asked asking.number false ∷ []
  pub negative : asking.query.negative ≡ set_asked 0 true ∷ []
