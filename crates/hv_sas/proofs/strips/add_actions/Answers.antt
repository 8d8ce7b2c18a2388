use Rattle.std.proofs.Common.{ap, ◌∙◌, ◌<◌, List, length, subst, get_or}
use Rattle.hv_sas.specs.declared.sas_task.SasOperator.{SasOperator}
use Rattle.hv_sas.specs.Sound.{IsOperator}
use Rattle.hv_sas.proofs.Making.{item_is}
use Rattle.hv_sas.proofs.strips.add_actions.Goals as goal

pub add_action-requires-clause-operator : goal.add_action-requires-clause-operator
add_action-requires-clause-operator c =
    let e = c.as_slice-operator-items.ensures in
    let i = c.loop-operator.operator-index in
    item_is (IsOperator c.args.sas.now.variables) c.args.sas.now.operators i c.operator-item.result
    c.requires.sound.operators
    (subst (λ (ops : List SasOperator). i < length ops) e c.loop-operator-test.true)
    (c.operator-item.is ∙ ap (λ (ops : List SasOperator). get_or ops i c.operator-item.result) e)
