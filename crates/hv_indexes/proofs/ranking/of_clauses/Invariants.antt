use Rattle.hv_indexes.specs.Orders.{OrdersUpto}
use Rattle.hv_indexes.proofs.ranking.of_clauses.Given as goal

abbrev pub invariant-loop-place : goal.invariant-loop-place
invariant-loop-place l = OrdersUpto l.place l.codes.items
