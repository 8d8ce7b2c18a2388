use Rattle.std.proofs.Common.{◌≡◌, ◌≤◌, take}
use Rattle.hv_sas.specs.Variables.{values_in}
use Rattle.hv_sas.proofs.sound.has_few_values.Given as goal

abbrev pub invariant-loop-variable : goal.invariant-loop-variable
invariant-loop-variable l =
    (l.total ≡ values_in (take l.variable-index l.variables)) × (l.total ≤ 65535)
