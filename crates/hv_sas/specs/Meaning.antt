-- The meaning of a task in finite-domain representation (SAS+): its states, what its operators do,
-- and which lists are plans.
use Rattle.std.specs.Prelude.{◌≡◌, ◌==◌, ◌&&◌, ℕ, Bool, true, List, [], ◌∷◌, Option, Some, None}
use Rattle.std.specs.Prelude.{cond}
use Rattle.std.specs.Prelude.{option_and_then, slice_get, slice_index, slice_set}
use Rattle.std.specs.List.{list_all}
use Rattle.std.specs.Option.{option_map_or}
use Rattle.hv_sas.specs.declared.sas_task.Effect.{Effect}
use Rattle.hv_sas.specs.declared.sas_task.Fact.{Fact}
use Rattle.hv_sas.specs.declared.sas_task.Sas.{Sas}
use Rattle.hv_sas.specs.declared.sas_task.SasOperator.{SasOperator}

-- A state is a list of values: the one at place v is the value of variable v.

-- the fact holds in the state: its variable has its value
abbrev pub has_fact : List ℕ → Fact → Bool
has_fact state fact = slice_index state fact.var == fact.value

-- the variable of the effect has the value before, where there is one
abbrev pub holds_before : List ℕ → Effect → Bool
holds_before state effect =
    option_map_or (λ before. slice_index state effect.var == before) effect.before true

-- the operator is applicable: its prevail conditions and its values before hold
abbrev pub is_applicable : SasOperator → List ℕ → Bool
is_applicable operator state =
    list_all (has_fact state) operator.prevail && list_all (holds_before state) operator.effects

-- the state with the value after of each of these effects
abbrev pub put_effects : List Effect → List ℕ → List ℕ
put_effects [] state = state
put_effects (effect ∷ effects) state =
    put_effects effects (slice_set state effect.var effect.after)

-- the state after the operator: each variable that it has an effect on has the value after, and the
-- others have the value that they had
abbrev pub result_of : SasOperator → List ℕ → List ℕ
result_of operator state = put_effects operator.effects state

-- the state after this operator, or none where there is no such operator or it isn't applicable
abbrev pub sas_step : Option SasOperator → List ℕ → Option (List ℕ)
sas_step None state = None
sas_step (Some operator) state =
    cond (is_applicable operator state) (Some (result_of operator state)) None

-- the state that the list of operator numbers leads to from this state, each applicable in turn
abbrev pub sas_run : Sas → List ℕ → List ℕ → Option (List ℕ)
sas_run sas [] state = Some state
sas_run sas (number ∷ numbers) state =
    option_and_then (sas_run sas numbers) (sas_step (slice_get sas.operators number) state)

-- the list is a plan: it leads from the initial state to one in which the facts of the goal hold
abbrev pub SasSolves : Sas → List ℕ → Type 0
SasSolves sas list = (last : List ℕ) × (sas_run sas list sas.start ≡ Some last)
    × (list_all (has_fact last) sas.goal ≡ true)
