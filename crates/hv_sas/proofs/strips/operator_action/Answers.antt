use Rattle.std.proofs.Common.{◌∙◌, ◌++◌, ap, map, List}
use Rattle.std.specs.List.{filter_map, flat_map}
use Rattle.hv_sas.specs.declared.sas_task.Effect.{Effect}
use Rattle.hv_sas.specs.declared.sas_task.SasVariable.{SasVariable}
use Rattle.hv_sas.specs.Made.{fact_atoms, fact_after, fact_before, facts_gone}
use Rattle.hv_sas.proofs.Making.{same_action}
use Rattle.hv_sas.proofs.strips.operator_action.Goals as goal

pub returns-clause-action : goal.returns-clause-action
returns-clause-action c =
    let op = c.args.operator.now in
    let e = c.as_slice-variables.ensures in
    same_action _ _ _ _ _ _ _ _ _ _ (c.in_ok-name.ensures ∙ c.as_bytes.ensures)
    c.operator_cost-cost.ensures
    (c.in_ok-pre.ensures.list
    ∙ ap (λ (vs : List SasVariable).
    fact_atoms vs (op.prevail ++ filter_map fact_before op.effects)) e)
    (c.in_ok-add.ensures.list
    ∙ ap (λ (vs : List SasVariable). fact_atoms vs (map fact_after op.effects)) e)
    (c.in_ok-del.ensures.list
    ∙ ap (λ (vs : List SasVariable). fact_atoms vs
    (flat_map (λ (x : Effect). facts_gone vs x (fact_before x)) op.effects)) e)
