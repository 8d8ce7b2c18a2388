use Rattle.std.proofs.Common.{◌≡◌, ◌++◌, map}
use Rattle.hv_bound.specs.Bounded.{amounts, counter_name}
use Rattle.hv_bound.proofs.bound.add_counters.Given as goal

abbrev pub invariant-loop-left : goal.invariant-loop-left
invariant-loop-left l = record {
  same : l.made ≡ record l.fn.made { names = l.made.names };
  rest : l.made.names ++ map counter_name (amounts l.left l.most)
      ≡ l.fn.made.names ++ map counter_name (amounts 0 l.most);
}
