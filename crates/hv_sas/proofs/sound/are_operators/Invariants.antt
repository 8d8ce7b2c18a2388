use Rattle.std.proofs.Common.{ℕ, ◌<◌, get_or}
use Rattle.hv_sas.specs.declared.sas_task.SasOperator.{SasOperator}
use Rattle.hv_sas.specs.Sound.{IsOperator}
use Rattle.hv_sas.proofs.sound.are_operators.Given as goal

abbrev pub invariant-loop-operator : goal.invariant-loop-operator
invariant-loop-operator l =
    (k : ℕ) (d : SasOperator) → k < l.operator-index
    → IsOperator l.variables (get_or l.operators k d)
