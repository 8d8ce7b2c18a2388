use Rattle.std.proofs.Common.{take}
use Rattle.std.specs.List.{All}
use Rattle.hv_bdd.specs.Working.Search.{IsEndTuple}
use Rattle.hv_bdd.proofs.tuple_search.Search.first_end.Given as goal

abbrev pub invariant-loop-k : goal.invariant-loop-k
invariant-loop-k l = All (λ t. IsEndTuple l.self t.items → ⊥) (take l.k l.tuples)
