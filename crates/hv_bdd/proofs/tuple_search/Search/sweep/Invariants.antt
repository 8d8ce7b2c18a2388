use Rattle.std.proofs.Common.{◌≡◌, ◌≤◌, ◌-◌}
use Rattle.hv_bdd.specs.Working.Search.{tuples_of}
use Rattle.hv_bdd.specs.Working.Sweeping.{SweptSoFar}
use Rattle.hv_bdd.proofs.tuple_search.Search.sweep.Given as goal

abbrev pub invariant-loop : goal.invariant-loop
invariant-loop l = record {
  swept : SweptSoFar l.fn.self (l.budget - l.left) l.waiting.places.items
      (tuples_of l.waiting.here);
  left : l.left ≤ l.budget;
  same : l.self ≡ l.fn.self;
}
