-- The task in STRIPS form that is made of a finite-domain task: an atom for each fact.
use Rattle.std.specs.Prelude.{◌==◌, ℕ, ◌+◌, not, List, [], ◌∷◌, ◌++◌, Option, None, Some, map}
use Rattle.std.specs.Prelude.{filter, length, option_and_then, option_map, slice_get, slice_index}
use Rattle.std.specs.Prelude.{take, if◌then◌else◌}
use Rattle.std.specs.List.{filter_map, flat_map, range_with_len}
use Rattle.hv_task.specs.AtomList.{set_of}
use Rattle.hv_task.specs.Strips.{Strips}
use Rattle.hv_task.specs.declared.action.Action.{Action}
use Rattle.hv_sas.specs.declared.sas_task.Effect.{Effect}
use Rattle.hv_sas.specs.declared.sas_task.Fact.{Fact}
use Rattle.hv_sas.specs.declared.sas_task.Sas.{Sas}
use Rattle.hv_sas.specs.declared.sas_task.SasOperator.{SasOperator}
use Rattle.hv_sas.specs.declared.sas_task.SasVariable.{SasVariable}
use Rattle.hv_sas.specs.Variables.{range_at, values_in}

-- the atom of a fact: the facts of each variable follow those of the variables before it, in the
-- order of their values
abbrev pub fact_atom : List SasVariable → Fact → ℕ
fact_atom variables fact = values_in (take fact.var variables) + fact.value

-- the name of the value of a fact
abbrev pub value_name : List SasVariable → Fact → Option (List ℕ)
value_name variables fact =
    option_and_then (λ (variable : SasVariable). slice_get variable.values fact.value)
    (slice_get variables fact.var)

-- the atoms of these facts: each once, rising
abbrev pub fact_atoms : List SasVariable → List Fact → List ℕ
fact_atoms variables facts = set_of (values_in variables) (map (fact_atom variables) facts)

-- the facts of a state: each variable with its value
abbrev pub state_facts : List ℕ → List Fact
state_facts state =
    map (λ var. record { var = var; value = slice_index state var })
    (range_with_len 0 (length state))

-- all facts of a variable
abbrev pub facts_on : List SasVariable → ℕ → List Fact
facts_on variables var =
    map (λ value. record { var = var; value = value }) (range_with_len 0 (range_at variables var))

-- the fact that the effect asks for, if any
abbrev pub fact_before : Effect → Option Fact
fact_before effect = option_map (λ value. record { var = effect.var; value = value }) effect.before

-- the fact that the effect makes true
abbrev pub fact_after : Effect → Fact
fact_after effect = record { var = effect.var; value = effect.after }

-- the facts that the effect makes false: the one before, where there is one, and otherwise all of
-- the variable but for the one after
abbrev pub facts_gone : List SasVariable → Effect → Option Fact → List Fact
facts_gone variables effect None =
    filter (λ (fact : Fact). not (fact.value == effect.after)) (facts_on variables effect.var)
facts_gone variables effect (Some before) = before ∷ []

-- the action of an operator
abbrev pub operator_action : Sas → SasOperator → Action
operator_action sas operator = record {
  name = operator.name;
  cost = if sas.metric then operator.cost else 1;
  pre = fact_atoms sas.variables (operator.prevail ++ filter_map fact_before operator.effects);
  add = fact_atoms sas.variables (map fact_after operator.effects);
  del = fact_atoms sas.variables
      (flat_map (λ (effect : Effect). facts_gone sas.variables effect (fact_before effect))
      operator.effects);
}

-- the made task
abbrev pub strips_of : Sas → Strips
strips_of sas = record {
  names = flat_map (λ (variable : SasVariable). variable.values) sas.variables;
  start = fact_atoms sas.variables (state_facts sas.start);
  goal = fact_atoms sas.variables sas.goal;
  actions = map (operator_action sas) sas.operators;
}
