use Rattle.std.proofs.Common.{take}
use Rattle.std.specs.List.{flat_map}
use Rattle.hv_sas.specs.declared.sas_task.Effect.{Effect}
use Rattle.hv_sas.specs.Made.{fact_before, facts_gone}
use Rattle.hv_sas.specs.Working.Making.{AddsFacts}
use Rattle.hv_sas.proofs.strips.put_all_gone.Given as goal

abbrev pub invariant-loop-effect : goal.invariant-loop-effect
invariant-loop-effect l =
    AddsFacts l.variables (flat_map (λ (e : Effect). facts_gone l.variables e (fact_before e))
    (take l.effect-index l.effects)) l.fn.set l.set
