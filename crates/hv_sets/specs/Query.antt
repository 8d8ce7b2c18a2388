-- Queries: what a basic statement asks of the sets of a store, and when a state is a counterexample
-- to it.
use Rattle.std.specs.Prelude.{◌≡◌, ◌<◌, ◌≤◌, ◌⊎◌, ◌++◌, ◌&&◌, ℕ, Bool, true, false, not, List}
use Rattle.std.specs.Prelude.{Option, None, Some, slice_get, ⊤}
use Rattle.std.specs.List.{All, Contains, list_all}
use Rattle.hv_task.specs.declared.action.Action.{Action}
use Rattle.hv_task.specs.State.{applicable, successor}
use Rattle.hv_task.specs.Strips.{Strips, start_state, is_goal}
use Rattle.hv_sets.specs.declared.operand.Operand.{Operand}
use Rattle.hv_sets.specs.declared.operand.Which.{Which}
use Rattle.hv_sets.specs.declared.operand.Which.TheVariants as W
use Rattle.hv_sets.specs.declared.query.Query.{Query}
use Rattle.hv_sets.specs.Truth.{is_same}

-- A store is given by a test for each of its sets, by number: whether a state is in that set.

-- the state is in what the operand names: no state, the initial state alone, the goal states, or a
-- set of the store
abbrev pub in_which : Strips → (ℕ → List Bool → Bool) → Which → List Bool → Bool
in_which task sets W.Empty state = false
in_which task sets W.Start state = is_same (start_state task) state
in_which task sets W.Goal state = is_goal task state
in_which task sets (W.Set number) state = sets number state

-- the action of a query, if it has one
abbrev pub action_of : Strips → Option ℕ → Option Action
action_of task None = None
action_of task (Some number) = slice_get task.actions number

-- the action is applicable, if there is one
abbrev pub may_apply : Option Action → List Bool → Bool
may_apply None state = true
may_apply (Some action) state = applicable action state

-- the state about which an operand is asked: the state itself, or the one after the action
abbrev pub asked : Option Action → Bool → List Bool → List Bool
asked (Some action) true state = successor action state
asked action after state = state

-- the state, or the one after the action, is in what the operand names
abbrev pub in_operand : Strips → (ℕ → List Bool → Bool) → Option Action → List Bool → Operand → Bool
in_operand task sets action state operand =
    in_which task sets operand.which (asked action operand.after state)

-- the state is a counterexample: the action is applicable in it, and it is in each positive operand
-- and in no negative one
abbrev pub is_clash : Strips → (ℕ → List Bool → Bool) → Query → List Bool → Bool
is_clash task sets query state =
    may_apply (action_of task query.action) state
    && (list_all (λ o. in_operand task sets (action_of task query.action) state o) query.positive
    && list_all (λ o. not (in_operand task sets (action_of task query.action) state o))
    query.negative)

-- the set is a constant, or one of the first so many sets of a store
abbrev pub IsNamed : ℕ → Which → Type 0
IsNamed count (W.Set number) = number < count
IsNamed count _ = ⊤

-- the one operand comes before the other: its identifier is less, or the two have one identifier
-- and only the other is asked after the action
abbrev pub ComesBefore : Operand → Operand → Type 0
ComesBefore first second =
    (first.id < second.id) ⊎ ((first.id ≡ second.id) × (first.after ≡ false)
    × (second.after ≡ true))

-- each operand comes before those that follow it
abbrev pub Rises : List Operand → Type 0
Rises operands =
    (i j : ℕ) (first second : Operand) → i < j → slice_get operands i ≡ Some first
    → slice_get operands j ≡ Some second
    → ComesBefore first second

-- the query can be asked of a store with so many sets
pub record IsReady (count : ℕ) (query : Query) : Type 0 where
  -- the sets that it names are in the store
  pub named : All (λ o. IsNamed count o.which) (query.positive ++ query.negative)
  -- one identifier names one set
  pub one_set : (o p : Operand) → Contains (query.positive ++ query.negative) o
      → Contains (query.positive ++ query.negative) p
      → o.id ≡ p.id → o.which ≡ p.which
  -- without an action no operand is asked after it
  pub before : query.action ≡ None → All (λ o. o.after ≡ false) (query.positive ++ query.negative)
  pub positive_rises : Rises query.positive
  pub negative_rises : Rises query.negative

-- the operand can be the anchor, whose states are gone through one by one: it isn't asked after the
-- action, and it is a set of the store, that of the initial state, or the empty one
abbrev pub CanAnchor : Operand → Type 0
CanAnchor operand = (operand.after ≡ false) × (operand.which ≡ W.Goal → ⊥)

-- the anchor: of the positive operands that can be it, the one of least identifier
pub record IsAnchor (positive : List Operand) (operand : Operand) : Type 0 where
  pub among : Contains positive operand
  pub can : CanAnchor operand
  pub least : (other : Operand) → Contains positive other → CanAnchor other → operand.id ≤ other.id

-- there is an anchor: some positive operand can be it
abbrev pub HasAnchor : Query → Type 0
HasAnchor query = (operand : Operand) × Contains query.positive operand × CanAnchor operand
