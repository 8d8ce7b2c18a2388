use Rattle.std.proofs.Common.{◌≡◌}
use Rattle.hv_bdd.proofs.tuple_search.Search.count_all.Given as goal

abbrev pub invariant-loop : goal.invariant-loop
invariant-loop l = l.self ≡ l.fn.self
