-- What lines mean: the states of a set, the actions of an action set, and when a statement is true.
use Rattle.std.specs.Prelude.{◌≡◌, ◌<◌, ◌⊎◌, ◌||◌, ℕ, Bool, true, false, List, [], ◌∷◌, Some}
use Rattle.std.specs.Prelude.{length, nat_eq, slice_get}
use Rattle.std.specs.List.{list_any}
use Rattle.hv_task.specs.declared.action.Action.{Action}
use Rattle.hv_task.specs.State.{applicable, successor}
use Rattle.hv_task.specs.Strips.{Strips, atoms, IsState, start_state, is_goal}
use Rattle.hv_task.specs.Plan.{Dead, IsUnsolvable}
use Rattle.hv_sets.specs.Truth.{in_clauses, InStates}
use Rattle.hv_bdd.specs.Nodes.{NodeList, in_node}
use Rattle.hv_lines.specs.Numbering.{statement_at}
use Rattle.hv_lines.specs.declared.line.Acts.{Acts}
use Rattle.hv_lines.specs.declared.line.Acts.TheVariants as A
use Rattle.hv_lines.specs.declared.line.Constant.TheVariants as C
use Rattle.hv_lines.specs.declared.line.Expr.{Expr}
use Rattle.hv_lines.specs.declared.line.Expr.TheVariants as E
use Rattle.hv_lines.specs.declared.line.Line.{Line}
use Rattle.hv_lines.specs.declared.line.Line.TheVariants as L
use Rattle.hv_lines.specs.declared.line.Statement.{Statement}
use Rattle.hv_lines.specs.declared.line.Statement.TheVariants as T

-- a set of states, by the fact that a state is in it
abbrev pub SetOfStates : Type 1
SetOfStates = List Bool → Type 0

-- a set of actions, by the test whether an action's number is in it
abbrev pub ActionSet : Type 0
ActionSet = ℕ → Bool

-- the actions of an action set, where the earlier sets have these
abbrev pub has_action : (ℕ → ActionSet) → Acts → ActionSet
has_action acts A.All number = true
has_action acts (A.List actions) number = list_any (λ n. nat_eq n number) actions
has_action acts (A.Both left right) number = acts left number || acts right number

-- progression: the state is the result of one of the actions, applied in a state of the set
pub record IsAfter (task : Strips) (set : SetOfStates) (acts : ActionSet) (state : List Bool)
    : Type 0 where
  pub before : List Bool
  pub is_state : IsState task before
  pub inside : set before
  pub number : ℕ
  pub action : Action
  pub among : acts number ≡ true
  pub named : slice_get task.actions number ≡ Some action
  pub applies : applicable action before ≡ true
  pub result : successor action before ≡ state

-- regression: one of the actions is applicable in the state, with its result in the set
pub record IsBefore (task : Strips) (set : SetOfStates) (acts : ActionSet) (state : List Bool)
    : Type 0 where
  pub number : ℕ
  pub action : Action
  pub among : acts number ≡ true
  pub named : slice_get task.actions number ≡ Some action
  pub applies : applicable action state ≡ true
  pub inside : set (successor action state)

-- the states of a set, where the earlier action sets and sets have these
abbrev pub holds : Strips → NodeList → (ℕ → ActionSet) → (ℕ → SetOfStates) → Expr → SetOfStates
holds task nodes acts sets (E.Constant C.Empty) state = ⊥
holds task nodes acts sets (E.Constant C.Start) state = state ≡ start_state task
holds task nodes acts sets (E.Constant C.Goal) state = is_goal task state ≡ true
holds task nodes acts sets (E.Horn clauses) state = in_clauses clauses state ≡ true
holds task nodes acts sets (E.Dual clauses) state = in_clauses clauses state ≡ true
holds task nodes acts sets (E.Two clauses) state = in_clauses clauses state ≡ true
holds task nodes acts sets (E.States states) state = InStates (atoms task) states state
holds task nodes acts sets (E.Node node) state = in_node nodes node state ≡ true
holds task nodes acts sets (E.Not set) state = sets set state → ⊥
holds task nodes acts sets (E.And left right) state = sets left state × sets right state
holds task nodes acts sets (E.Or left right) state = sets left state ⊎ sets right state
holds task nodes acts sets (E.After set by) state = IsAfter task (sets set) (acts by) state
holds task nodes acts sets (E.Before set by) state = IsBefore task (sets set) (acts by) state

-- the first action set, or the second
abbrev pub pick_acts : Bool → ActionSet → ActionSet → ActionSet
pick_acts true here there = here
pick_acts false here there = there

-- the first set, or the second
abbrev pub pick_set : Bool → SetOfStates → SetOfStates → SetOfStates
pick_set true here there = here
pick_set false here there = there

-- the actions of each action set of the lines, the newest line first
abbrev pub acts_of : List Line → ℕ → ActionSet
acts_of [] wanted = λ number. false
acts_of (L.Acts id acts ∷ older) wanted =
    pick_acts (nat_eq wanted id) (has_action (acts_of older) acts) (acts_of older wanted)
acts_of (L.Expr id expr ∷ older) wanted = acts_of older wanted
acts_of (L.Known id statement word premises ∷ older) wanted = acts_of older wanted

-- the states of each set of the lines, the newest line first
abbrev pub sets_of : Strips → NodeList → List Line → ℕ → SetOfStates
sets_of task nodes [] wanted = λ state. ⊥
sets_of task nodes (L.Acts id acts ∷ older) wanted = sets_of task nodes older wanted
sets_of task nodes (L.Expr id expr ∷ older) wanted =
    pick_set (nat_eq wanted id) (holds task nodes (acts_of older) (sets_of task nodes older) expr)
    (sets_of task nodes older wanted)
sets_of task nodes (L.Known id statement word premises ∷ older) wanted =
    sets_of task nodes older wanted

-- the statement is true: of the sets that these lines name
abbrev pub IsTrueStatement : Strips → NodeList → List Line → Statement → Type 0
IsTrueStatement task nodes lines (T.Sub left right) =
    (state : List Bool) → IsState task state → sets_of task nodes lines left state
    → sets_of task nodes lines right state
IsTrueStatement task nodes lines (T.ActSub left right) =
    (number : ℕ) → number < length task.actions → acts_of lines left number ≡ true
    → acts_of lines right number ≡ true
IsTrueStatement task nodes lines (T.Dead set) =
    (state : List Bool) → IsState task state → sets_of task nodes lines set state → Dead task state
IsTrueStatement task nodes lines T.Unsolvable = IsUnsolvable task

-- every `k` line of the list claims what is true of the sets that the lines before it name
abbrev pub AllTrue : Strips → NodeList → List Line → Type 0
AllTrue task nodes [] = Unit {0}
AllTrue task nodes (L.Acts id acts ∷ older) = AllTrue task nodes older
AllTrue task nodes (L.Expr id expr ∷ older) = AllTrue task nodes older
AllTrue task nodes (L.Known id statement word premises ∷ older) =
    IsTrueStatement task nodes older statement × AllTrue task nodes older

-- every `k` line claims what is true of the sets that these lines name
abbrev pub AreTrue : Strips → NodeList → List Line → Type 0
AreTrue task nodes lines =
    (id : ℕ) (statement : Statement) → statement_at lines id ≡ Some statement
    → IsTrueStatement task nodes lines statement
