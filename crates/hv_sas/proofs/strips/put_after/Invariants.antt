use Rattle.std.proofs.Common.{take, map}
use Rattle.hv_sas.specs.Made.{fact_after}
use Rattle.hv_sas.specs.Working.Making.{AddsFacts}
use Rattle.hv_sas.proofs.strips.put_after.Given as goal

abbrev pub invariant-loop-effect : goal.invariant-loop-effect
invariant-loop-effect l =
    AddsFacts l.variables (map fact_after (take l.effect-index l.effects)) l.fn.set l.set
