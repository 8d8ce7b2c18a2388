use Rattle.hv_formula.specs.Positive.{ArePositive}
use Rattle.hv_formula.proofs.first_states.positive_of.Given as goal

abbrev pub invariant-loop-place : goal.invariant-loop-place
invariant-loop-place l = ArePositive l.clauses l.place l.places.items
