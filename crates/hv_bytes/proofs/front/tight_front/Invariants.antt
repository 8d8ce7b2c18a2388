use Rattle.hv_bytes.specs.Working.Fronts.{SpellsFront}
use Rattle.hv_bytes.proofs.front.tight_front.Given as goal

abbrev pub invariant-loop-count : goal.invariant-loop-count
invariant-loop-count l = SpellsFront l.line l.count l.number
