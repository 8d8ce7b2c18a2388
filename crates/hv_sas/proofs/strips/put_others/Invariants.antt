use Rattle.std.proofs.Common.{map, ℕ, not}
use Rattle.std.specs.Prelude.{◌==◌}
use Rattle.std.specs.List.{filter, range_with_len}
use Rattle.hv_sas.specs.declared.sas_task.Fact.{Fact}
use Rattle.hv_sas.specs.Working.Making.{AddsFacts}
use Rattle.hv_sas.proofs.strips.put_others.Given as goal

abbrev pub invariant-loop-value : goal.invariant-loop-value
invariant-loop-value l =
    let fact : ℕ → Fact = λ x. record { var = l.effect.var; value = x } in
    AddsFacts l.variables (filter (λ (f : Fact). not (f.value == l.effect.after))
    (map fact (range_with_len 0 l.value))) l.fn.set l.set
