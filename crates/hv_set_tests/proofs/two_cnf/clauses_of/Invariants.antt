use Rattle.hv_propagation.specs.Clauses.{AreClauses}
use Rattle.hv_set_tests.proofs.two_cnf.clauses_of.Given as goal

abbrev pub invariant-loop-row : goal.invariant-loop-row
invariant-loop-row l = AreClauses 3 l.clauses
