use Rattle.std.proofs.Common.{◌≡◌, ◌++◌, take}
use Rattle.std.specs.List.{flat_map}
use Rattle.hv_sas.specs.declared.sas_task.SasVariable.{SasVariable}
use Rattle.hv_sas.proofs.strips.add_variables.Given as goal

abbrev pub invariant-loop-variable : goal.invariant-loop-variable
invariant-loop-variable l =
    l.task ≡ record l.fn.task {
      names = l.fn.task.names
          ++ flat_map (λ (x : SasVariable). x.values) (take l.variable-index l.variables);
    }
