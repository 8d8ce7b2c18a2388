use Rattle.std.proofs.Common.{◌≡◌, ◌≤◌, drop, min}
use Rattle.hv_bdd.specs.Live.{moves}
use Rattle.hv_bdd.specs.Tuples.{least}
use Rattle.hv_bdd.proofs.tuple_search.Search.least.Given as goal

abbrev pub invariant-loop-k : goal.invariant-loop-k
invariant-loop-k l = record {
  upto : l.least ≤ l.self.setting.list.atoms;
  rest : min l.least (least (moves l.self.setting) (drop l.k l.self.asked) (drop l.k l.tuple))
      ≡ least (moves l.self.setting) l.self.asked l.tuple;
}
