use Rattle.hv_propagation.specs.Clauses.{AreClauses}
use Rattle.hv_agreement.proofs.three.clauses_from.Given as goal

abbrev pub invariant-loop-code : goal.invariant-loop-code
invariant-loop-code l = AreClauses 3 l.clauses
