use Rattle.hv_explicit.specs.ListedStates.{AreStates}
use Rattle.hv_set_tests.proofs.listed.set_from.Given as goal

abbrev pub invariant-loop-code : goal.invariant-loop-code
invariant-loop-code l = AreStates 2 l.states
