use Rattle.std.proofs.Common.{ap, ◌∙◌, ◌++◌, length}
use Rattle.std.specs.List.{flat_map}
use Rattle.hv_task.specs.Strips.{Strips, atoms}
use Rattle.hv_sas.specs.declared.sas_task.SasVariable.{SasVariable}
use Rattle.hv_sas.specs.Variables.{values_in}
use Rattle.hv_sas.proofs.Plans.{length-names}
use Rattle.hv_sas.proofs.strips.make.Goals as goal

pub add_ends-requires-clause-atoms : goal.add_ends-requires-clause-atoms
add_ends-requires-clause-atoms c =
    ap (λ (t : Strips). atoms t) c.in_ok-add_variables.ensures
    ∙ ap (λ (t : Strips). length (t.names
    ++ flat_map (λ (x : SasVariable). x.values) c.as_slice-variables.result.now)) c.new-task.ensures
    ∙ length-names c.as_slice-variables.result.now ∙ ap values_in c.as_slice-variables.ensures

pub add_actions-requires-clause-atoms : goal.add_actions-requires-clause-atoms
add_actions-requires-clause-atoms c =
    ap (λ (t : Strips). atoms t) c.in_ok-add_ends.ensures
    ∙ ap (λ (t : Strips). atoms t) c.in_ok-add_variables.ensures
    ∙ ap (λ (t : Strips). length (t.names
    ++ flat_map (λ (x : SasVariable). x.values) c.as_slice-variables.result.now)) c.new-task.ensures
    ∙ length-names c.as_slice-variables.result.now ∙ ap values_in c.as_slice-variables.ensures
