use Rattle.hv_propagation.specs.UnitRounds.{IsAround}
use Rattle.hv_propagation.proofs.unit_rounds.run.Given as goal

abbrev pub invariant-loop : goal.invariant-loop
invariant-loop l = IsAround l.atoms l.clauses l.cube
