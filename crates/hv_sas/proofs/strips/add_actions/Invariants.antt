use Rattle.std.proofs.Common.{◌≡◌, [], take, map}
use Rattle.hv_sas.specs.Made.{operator_action}
use Rattle.hv_sas.proofs.strips.add_actions.Given as goal

abbrev pub invariant-loop-operator : goal.invariant-loop-operator
invariant-loop-operator l =
    (l.task ≡ record l.fn.task {
      actions = map (operator_action l.sas) (take l.operator-index l.sas.operators);
    })
    × (l.set ≡ [])
