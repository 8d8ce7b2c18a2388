-- Which actions can be applicable in one of few states, and which of those that are chosen can have
-- a counterexample.
use Rattle.std.specs.Prelude.{◌≡◌, ◌<◌, ◌↔◌, ℕ, Bool, true, false, List, Option, Some, length}
use Rattle.std.specs.Prelude.{slice_get}
use Rattle.std.specs.List.{All, Contains}
use Rattle.std.specs.List.Sorted.{IsStrictlyIncreasing}
use Rattle.hv_task.specs.declared.action.Action.{Action}
use Rattle.hv_task.specs.State.{AreBelow, applicable}
use Rattle.hv_task.specs.Strips.{Strips, atoms}
use Rattle.hv_sets.specs.Query.{in_which, is_clash}
use Rattle.hv_sets.specs.declared.operand.Operand.{Operand}
use Rattle.hv_sets.specs.declared.operand.Which.{Which}
use Rattle.hv_sets.specs.declared.query.Query.{Query}
use Rattle.hv_lines.specs.Meaning.{acts_of}
use Rattle.hv_lines.specs.declared.line.Line.{Line}
use Rattle.hv_basic.specs.Working.Asked.{with_action}

-- the action set has every action
abbrev pub HasEveryAction : List Line → Option ℕ → Type 0
HasEveryAction lines set =
    (acts : ℕ) × (set ≡ Some acts) × ((number : ℕ) → acts_of lines acts number ≡ true)

-- the set is asked about before the action, and the state has to be in it
abbrev pub IsAskedBefore : List Operand → Which → Type 0
IsAskedBefore positive which =
    (operand : Operand) × Contains positive operand × (operand.after ≡ false)
    × (operand.which ≡ which)

-- the list is of actions of the task, of which it has the first, and each one whose whole
-- precondition is in one of the states
pub record AreFound (task : Strips) (states : List (List ℕ)) (listed : List ℕ) : Type 0 where
  pub below : AreBelow (length task.actions) listed
  pub first : 0 < length task.actions → Contains listed 0
  pub each : (number : ℕ) (action : Action) (held : List ℕ)
      → slice_get task.actions number ≡ Some action → Contains states held
      → All (λ atom. Contains held atom) action.pre → Contains listed number

-- the same, with each one that is applicable in a state of the set
pub record AreCandidates (task : Strips) (sets : ℕ → List Bool → Bool) (which : Which)
    (listed : List ℕ) : Type 0
  where
    pub below : AreBelow (length task.actions) listed
    pub first : 0 < length task.actions → Contains listed 0
    pub each : (number : ℕ) (action : Action) (state : List Bool)
        → slice_get task.actions number ≡ Some action → length state ≡ atoms task
        → in_which task sets which state ≡ true → applicable action state ≡ true
        → Contains listed number

-- the list is of actions of the task, of which it has the first, and each one for which the query
-- has a counterexample
pub record HaveAllClashes (task : Strips) (sets : ℕ → List Bool → Bool) (query : Query)
    (listed : List ℕ) : Type 0
  where
    pub below : AreBelow (length task.actions) listed
    pub first : 0 < length task.actions → Contains listed 0
    pub each : (number : ℕ) (state : List Bool) → number < length task.actions
        → length state ≡ atoms task
        → is_clash task sets (with_action query (Some number)) state ≡ true
        → Contains listed number

-- the action set lists these actions, which rise
abbrev pub IsRisingList : List Line → Option ℕ → List ℕ → Type 0
IsRisingList lines set listed =
    (acts : ℕ) × (set ≡ Some acts)
    × ((number : ℕ) → (acts_of lines acts number ≡ true) ↔ Contains listed number)
    × IsStrictlyIncreasing listed

-- these are listed and below the bound: those of the numbers that are, and some where any is
pub record AreListedAmong (listed numbers : List ℕ) (bound : ℕ) (few : List ℕ) : Type 0 where
  pub only : (k : ℕ) → Contains few k → Contains listed k × (k < bound)
  pub some : (k : ℕ) → Contains listed k → k < bound → 0 < length few
  pub each : (k : ℕ) → Contains numbers k → Contains listed k → k < bound → Contains few k

-- the list is of chosen actions of the task: some where there are any, and each one for which the
-- query has a counterexample
pub record HaveClashesAmong (task : Strips) (sets : ℕ → List Bool → Bool) (query : Query)
    (chosen : ℕ → Bool) (listed : List ℕ) : Type 0
  where
    pub below : AreBelow (length task.actions) listed
    pub only : (number : ℕ) → Contains listed number → chosen number ≡ true
    pub some : (number : ℕ) → number < length task.actions → chosen number ≡ true
        → 0 < length listed
    pub each : (number : ℕ) (state : List Bool) → number < length task.actions
        → chosen number ≡ true → length state ≡ atoms task
        → is_clash task sets (with_action query (Some number)) state ≡ true
        → Contains listed number
