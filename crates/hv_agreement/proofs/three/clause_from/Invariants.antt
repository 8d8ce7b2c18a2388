use Rattle.hv_sets.specs.Cubes.{SpeakBelow}
use Rattle.hv_agreement.proofs.three.clause_from.Given as goal

abbrev pub invariant-loop-place : goal.invariant-loop-place
invariant-loop-place l = SpeakBelow 3 l.clause
