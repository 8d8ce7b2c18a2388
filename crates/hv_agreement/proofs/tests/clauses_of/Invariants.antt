use Rattle.hv_propagation.specs.Clauses.{AreClauses}
use Rattle.hv_agreement.proofs.tests.clauses_of.Given as goal

abbrev pub invariant-loop-row : goal.invariant-loop-row
invariant-loop-row l = AreClauses 4 l.clauses
