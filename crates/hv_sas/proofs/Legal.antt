-- The made task is within the limits of tasks, and its atoms have the names of the values.
use Rattle.std.proofs.Common.{◌≡◌, ℕ, ◌+◌, ◌<◌, ◌∙◌, List, [], ◌∷◌, Some}
use Rattle.std.proofs.Common.{map, take, sym, ap, subst, arith, get_or}
use Rattle.std.specs.Prelude.{option_and_then}
use Rattle.std.specs.List.{All, flat_map, slice_get}
use Rattle.std.proofs.lemmas.List.{length-map}
use Rattle.std.proofs.lemmas.List.Concat.{get_or-flat_map}
use Rattle.std.proofs.lemmas.List.Elements.{All-cons, All-nil}
use Rattle.std.proofs.lemmas.Option.{slice_get-get_or}
use Rattle.hv_task.specs.State.{AreBelow}
use Rattle.hv_task.specs.Strips.{IsOver, IsTask}
use Rattle.hv_task.proofs.Sets.{set_rises}
use Rattle.hv_sas.specs.declared.sas_task.Fact.{Fact}
use Rattle.hv_sas.specs.declared.sas_task.Sas.{Sas}
use Rattle.hv_sas.specs.declared.sas_task.SasOperator.{SasOperator}
use Rattle.hv_sas.specs.declared.sas_task.SasVariable.{SasVariable}
use Rattle.hv_sas.specs.Made.{fact_atom, operator_action, state_facts, strips_of, value_name}
use Rattle.hv_sas.specs.Sound.{IsSoundSas}
use Rattle.hv_sas.specs.Variables.{IsFact, range_of, values_in}
use Rattle.hv_sas.proofs.Atoms.{atom_below, range_within}
use Rattle.hv_sas.proofs.Making.{action_over, atoms_below}
use Rattle.hv_sas.proofs.Plans.{length-names}

no_variable : SasVariable
no_variable = record { name = []; values = [] }

-- the name of an atom is that of its value
pub names_value : (sas : Sas) (fact : Fact) → IsFact sas.variables fact
    → slice_get (strips_of sas).names (fact_atom sas.variables fact)
    ≡ value_name sas.variables fact
names_value sas fact is =
    let vs = sas.variables in
    let values : SasVariable → List (List ℕ) = λ y. y.values in
    let x = get_or vs fact.var no_variable in
    let there = slice_get-get_or vs fact.var no_variable (range_within vs fact.var fact.value is) in
    let few = subst (λ o. fact.value < range_of o) there is in
    let below = atom_below vs fact is in
    let size = length-names vs in
    slice_get-get_or (flat_map values vs) (fact_atom vs fact) [] (omega arith)
    ∙ ap (λ n. Some (get_or (flat_map values vs) (n + fact.value) []))
    (sym (length-names (take fact.var vs)))
    ∙ ap (λ name. Some name)
    (get_or-flat_map values vs fact.var fact.value no_variable []
    (range_within vs fact.var fact.value is) few)
    ∙ sym (ap (λ o. option_and_then (λ (y : SasVariable). slice_get y.values fact.value) o) there
    ∙ slice_get-get_or x.values fact.value [] few)

actions_over : (sas : Sas) (ops : List SasOperator)
    → All (IsOver (values_in sas.variables)) (map (operator_action sas) ops)
actions_over sas [] = All-nil (IsOver (values_in sas.variables))
actions_over sas (op ∷ ops) =
    All-cons (IsOver (values_in sas.variables)) (operator_action sas op)
    (map (operator_action sas) ops) (action_over sas op) (actions_over sas ops)

pub is_task : (sas : Sas) → IsSoundSas sas → IsTask (strips_of sas)
is_task sas sound =
    let size = length-names sas.variables in
    let few = sound.few_values in
    let many = length-map sas.operators (operator_action sas) in
    let most = sound.few_operators in
    record {
      start = subst (λ n. AreBelow n (strips_of sas).start) (sym size)
          (atoms_below sas.variables (state_facts sas.start));
      start_rises = set_rises (values_in sas.variables)
          (map (fact_atom sas.variables) (state_facts sas.start));
      goal = subst (λ n. AreBelow n (strips_of sas).goal) (sym size)
          (atoms_below sas.variables sas.goal);
      goal_rises = set_rises (values_in sas.variables) (map (fact_atom sas.variables) sas.goal);
      actions = subst (λ n. All (IsOver n) (strips_of sas).actions) (sym size)
          (actions_over sas sas.operators);
      few_atoms = omega arith;
      few_actions = omega arith;
    }
