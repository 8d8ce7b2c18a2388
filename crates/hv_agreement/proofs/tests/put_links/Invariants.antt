use Rattle.hv_propagation.specs.Clauses.{AreClauses}
use Rattle.hv_agreement.proofs.tests.put_links.Given as goal

abbrev pub invariant-loop-turn : goal.invariant-loop-turn
invariant-loop-turn l = AreClauses 130 l.clauses
