use Rattle.std.proofs.Common.{ℕ, map}
use Rattle.std.specs.List.{range_with_len, slice_index}
use Rattle.hv_sas.specs.declared.sas_task.Fact.{Fact}
use Rattle.hv_sas.specs.Working.Making.{AddsFacts}
use Rattle.hv_sas.proofs.strips.put_state.Given as goal

abbrev pub invariant-loop-place : goal.invariant-loop-place
invariant-loop-place l =
    let fact : ℕ → Fact = λ v. record { var = v; value = slice_index l.state v } in
    AddsFacts l.variables (map fact (range_with_len 0 l.place)) l.fn.set l.set
