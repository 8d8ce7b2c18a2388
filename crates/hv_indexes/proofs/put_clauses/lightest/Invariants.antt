use Rattle.std.proofs.Common.{IfSome}
use Rattle.std.specs.List.{Contains}
use Rattle.hv_indexes.proofs.put_clauses.lightest.Given as goal

abbrev pub invariant-loop-at : goal.invariant-loop-at
invariant-loop-at l = IfSome l.found (λ literal. Contains l.clause literal)
