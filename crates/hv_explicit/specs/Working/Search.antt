-- The search through listed states for a counterexample to a query.
use Rattle.std.specs.Prelude.{◌≡◌, ◌<◌, ◌≤◌, ◌&&◌, ℕ, Bool, true, false, not, List, length}
use Rattle.std.specs.Prelude.{if◌then◌else◌, IfSome, MatchOption, None, Option, Some}
use Rattle.std.specs.List.{All, Contains, list_all}
use Rattle.hv_task.specs.State.{state_of}
use Rattle.hv_task.specs.Strips.{IsOver, IsState, Strips, atoms}
use Rattle.hv_sets.specs.declared.finding.Finding.{Finding}
use Rattle.hv_sets.specs.declared.finding.Finding.TheVariants as F
use Rattle.hv_sets.specs.declared.operand.Operand.{Operand}
use Rattle.hv_sets.specs.declared.operand.Which.{Which}
use Rattle.hv_sets.specs.declared.query.Query.{Query}
use Rattle.hv_sets.specs.Names.{AsksAbout}
use Rattle.hv_sets.specs.Query.{HasAnchor, IsAnchor, IsNamed, IsReady, action_of, in_which}
use Rattle.hv_sets.specs.Query.{is_clash}
use Rattle.hv_explicit.specs.Codes.{IsSetOf}
use Rattle.hv_explicit.specs.ListedStates.{AreListsOver, ListedStates, in_set}
use Rattle.hv_explicit.specs.declared.action_bits.ActionBits.{ActionBits}

-- a query, with the task and the sets of which it is asked
pub record ListedSearch : Type 0 where
  pub task : Strips
  pub sets : List ListedStates
  pub query : Query

-- the query can be asked of the sets, which are over the task
pub record IsListedSearch (s : ListedSearch) : Type 0 where
  pub over : AreListsOver s.sets (atoms s.task)
  pub ready : IsReady (length s.sets) s.query
  pub anchor : HasAnchor s.query
  pub action : IfSome s.query.action (λ a. a < length s.task.actions)

-- the same of a search with what is made once of its query: a flag without which no negative
-- operand is asked about before the action, the negative operands by flags, and the action by bits,
-- if there is one, where the task has few atoms
pub record IsPreparedSearch (s : ListedSearch) (asks_before : Bool) (named : List Operand)
    (bits : Option ActionBits) : Type 0 where
  pub search : IsListedSearch s
  pub asks : asks_before ≡ false → All (λ o. o.after ≡ true) s.query.negative
  pub names : named ≡ s.query.negative
  pub acts : MatchOption bits (atoms s.task ≤ 64 → action_of s.task s.query.action ≡ None)
      (λ b. (action_of s.task s.query.action ≡ Some b.action.now)
      × IsOver (atoms s.task) b.action.now)

-- the state is in what is named
abbrev pub in_named : ListedSearch → Which → List Bool → Bool
in_named s which state = in_which s.task (in_set s.sets) which state

-- the state is a counterexample
abbrev pub clashes_in : ListedSearch → List Bool → Bool
clashes_in s state = is_clash s.task (in_set s.sets) s.query state

-- the state of these atoms is a counterexample
abbrev pub clashes_at : ListedSearch → List ℕ → Bool
clashes_at s held = clashes_in s (state_of (atoms s.task) held)

-- what is named is the anchor: an operand that is the anchor names it, and each that is one does
pub record NamesAnchor (s : ListedSearch) (which : Which) : Type 0 where
  pub one : (o : Operand) × IsAnchor s.query.positive o × (o.which ≡ which)
  pub each : (o : Operand) → IsAnchor s.query.positive o → o.which ≡ which
  pub named : IsNamed (length s.sets) which

-- the state is a state of the task, and has just these atoms
pub record HasJust (task : Strips) (held : ℕ → Bool) (state : List Bool) : Type 0 where
  pub of_task : IsState task state
  pub same : IsSetOf held state

-- the state that is asked about, of those before and after an action, is in what the operand names
abbrev pub in_either : ListedSearch → List Bool → List Bool → Operand → Bool
in_either s before after operand =
    in_named s operand.which (if operand.after then after else before)

-- the states before and after the action are in no negative operand
abbrev pub is_in_none : ListedSearch → List Bool → List Bool → Bool
is_in_none s before after = list_all (λ o. not (in_either s before after o)) s.query.negative

-- they are in each positive operand and in no negative one
abbrev pub is_fit : ListedSearch → List Bool → List Bool → Bool
is_fit s before after =
    list_all (in_either s before after) s.query.positive && is_in_none s before after

-- some of the operands of this side is a set that has the state: of those that are asked about
-- after the action, or of the others
abbrev pub IsHit : ListedSearch → List Operand → Bool → List Bool → Type 0
IsHit s operands after state =
    (operand : Operand) × Contains operands operand × (operand.after ≡ after)
    × (in_named s operand.which state ≡ true)

-- the set is a negative operand of this side, and has the state
abbrev pub IsHitBy : ListedSearch → Which → Bool → List Bool → Type 0
IsHitBy s which after state =
    AsksAbout s.query.negative which after × (in_named s which state ≡ true)

-- the exact answer of a search through listed states: that there are more than the budget, that a
-- state of the task is a counterexample, or that no listed state is one
abbrev pub IsFoundListed : Finding → ℕ → ListedSearch → List (List ℕ) → List Bool → Type 0
IsFoundListed F.Over budget s states found = budget < length states
IsFoundListed F.Clash budget s states found =
    (length states ≤ budget) × IsState s.task found × (clashes_in s found ≡ true)
IsFoundListed F.Empty budget s states found =
    (length states ≤ budget) × All (λ held. clashes_at s held ≡ false) states
