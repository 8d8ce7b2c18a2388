-- Why a look at the states of the anchor answers a query whose action is applicable in none.
use Rattle.std.proofs.Common.{◌≡◌, ◌≤◌, ◌∙◌, ◌&&◌, ℕ, Bool, false, List, Some, length, get_or}
use Rattle.std.proofs.Common.{slice_get, sym, ap}
use Rattle.std.specs.List.{All, Contains}
use Rattle.hv_task.specs.declared.action.Action.{Action}
use Rattle.hv_task.specs.State.{applicable, state_of, successor}
use Rattle.hv_task.specs.Strips.{IsOver, atoms}
use Rattle.hv_sets.specs.Cost.{IsAnswer, StatesPass}
use Rattle.hv_sets.specs.Query.{IsAnchor, action_of}
use Rattle.hv_sets.specs.declared.finding.Finding.TheVariants as F
use Rattle.hv_sets.specs.declared.operand.Operand.{Operand}
use Rattle.hv_sets.specs.declared.operand.Which.TheVariants as W
use Rattle.hv_explicit.specs.ListedStates.{ListedStates, states_listed}
use Rattle.hv_explicit.specs.Working.Search.{IsListedSearch, ListedSearch, clashes_at, clashes_in}
use Rattle.hv_explicit.specs.Working.Search.{is_fit}
use Rattle.hv_explicit.proofs.Anchored.{answer_set, names_anchor, over_at}
use Rattle.hv_explicit.proofs.Clashes.{applies_not, clash_acting}

pub answer_idle : (s : ListedSearch) → IsListedSearch s → (o : Operand)
    → IsAnchor s.query.positive o → (number : ℕ) → o.which ≡ W.Set number → (set : ListedStates)
    → slice_get s.sets number ≡ Some set → (action : Action)
    → action_of s.task s.query.action ≡ Some action → IsOver (atoms s.task) action
    → (budget : ℕ) → length set.states ≤ budget
    → All (λ held. All (λ p. Contains held p) action.pre → ⊥) set.states → (last : List Bool)
    → IsAnswer F.Empty (StatesPass (states_listed s.sets) s.query budget) (atoms s.task)
    (clashes_in s) last
answer_idle s is o anchor number which set named action acts over budget few none last =
    answer_set s o.which (names_anchor s is.ready o anchor) F.Empty budget number set last
    (over_at s.sets (atoms s.task) number set is.over named) which named
    (few, λ k d within. no (get_or set.states k d) (none k d within))
  where
    no : (held : List ℕ) → (All (λ p. Contains held p) action.pre → ⊥)
        → clashes_at s held ≡ false
    no held isnt =
        let state = state_of (atoms s.task) held in
        let out : applicable action state ≡ false =
        applies_not (atoms s.task) held action.pre over.pre isnt in
        sym (clash_acting s state action acts)
        ∙ ap (λ b. b && is_fit s state (successor action state)) out
