use Rattle.hv_sets.specs.Cubes.{SpeakBelow}
use Rattle.hv_agreement.proofs.tests.clause_of.Given as goal

abbrev pub invariant-loop-number : goal.invariant-loop-number
invariant-loop-number l = SpeakBelow 4 l.clause
