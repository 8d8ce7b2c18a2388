use Rattle.std.proofs.Common.{take}
use Rattle.hv_sas.specs.Working.Making.{AddsFacts}
use Rattle.hv_sas.proofs.strips.put_facts.Given as goal

abbrev pub invariant-loop-fact : goal.invariant-loop-fact
invariant-loop-fact l =
    AddsFacts l.variables (take l.fact-index l.facts) l.fn.set l.set
