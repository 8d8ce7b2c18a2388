use Rattle.std.proofs.Common.{◌≡◌, ◌++◌, map}
use Rattle.hv_bound.specs.Bounded.{amounts, paid_copy}
use Rattle.hv_bound.proofs.bound.add_paid_copies.Given as goal

abbrev pub invariant-loop-left : goal.invariant-loop-left
invariant-loop-left l = record {
  same : l.made ≡ record l.fn.made { actions = l.made.actions };
  rest : l.made.actions ++ map (paid_copy l.first_counter l.number l.action) (amounts l.left l.most)
      ≡ l.fn.made.actions
      ++ map (paid_copy l.first_counter l.number l.action) (amounts l.action.cost l.most);
}
