use Rattle.std.proofs.Common.{ap, ◌+◌, take, length, arith, length-append}
use Rattle.std.specs.List.{flat_map}
use Rattle.hv_task.specs.Strips.{Strips, atoms}
use Rattle.hv_sas.specs.declared.sas_task.SasVariable.{SasVariable}
use Rattle.hv_sas.proofs.Making.{values_next, values_upto}
use Rattle.hv_sas.proofs.Plans.{length-names}
use Rattle.hv_sas.proofs.strips.add_variables.Goals as goal

pub add_values-requires : goal.add_values-requires
add_values-requires c =
    let vs = c.args.variables.now in
    let i = c.loop-variable.variable-index in
    let x = c.variable-item.result in
    let size = ap (λ (t : Strips). atoms t) c.loop-variable.invariant in
    let names = length-append c.args.task.now.names
    (flat_map (λ (y : SasVariable). y.values) (take i vs)) in
    let front = length-names (take i vs) in
    let next = values_next vs i x c.loop-variable-test.true in
    let at_most = values_upto vs (i + 1) in
    let here = ap (λ (y : SasVariable). length y.values) c.variable-item.is in
    let slice = ap length c.as_slice.ensures in
    let room = c.requires in omega arith
