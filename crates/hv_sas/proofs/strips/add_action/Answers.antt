use Rattle.std.proofs.Common.{subst, sym, ℕ}
use Rattle.hv_task.specs.Strips.{IsOver}
use Rattle.hv_task.specs.declared.action.Action.{Action}
use Rattle.hv_sas.specs.Variables.{values_in}
use Rattle.hv_sas.proofs.Making.{action_over}
use Rattle.hv_sas.proofs.strips.add_action.Goals as goal

pub add_action-requires-clause-over : goal.add_action-requires-clause-over
add_action-requires-clause-over c =
    subst (λ (n : ℕ). IsOver n c.in_ok-operator_action.field-0) (sym c.requires.atoms)
    (subst (λ (a : Action). IsOver (values_in c.args.sas.now.variables) a)
    (sym c.in_ok-operator_action.ensures.action) (action_over c.args.sas.now c.args.operator.now))
