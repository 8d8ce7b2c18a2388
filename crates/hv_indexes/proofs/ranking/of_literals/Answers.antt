use Rattle.std.proofs.Common.{◌+◌, subst, sym, arith, length}
use Rattle.hv_indexes.specs.Orders.{OrdersUpto}
use Rattle.hv_indexes.proofs.Orders.{orders_more, orders_same}
use Rattle.hv_indexes.proofs.ranking.of_literals.Goals as goal

pub loop-place-preserved : goal.loop-place-preserved
loop-place-preserved c =
    subst (λ xs. OrdersUpto (c.loop-place.place + 1) xs) (sym c.in_ok-push.ensures.items)
    (orders_more c.loop-place.place c.code_of.result c.loop-place.codes.items c.code_of.ensures
    c.loop-place.invariant)

pub returns : goal.returns
returns c =
    let a = c.loop-place-test.false in
    let b = c.loop-place.auto.place-end in
    orders_same (length c.args.clause.now) c.loop-place.codes.items c.sort.new.codes.items
    c.sort.ensures.rises c.sort.ensures.has
    (subst (λ n. OrdersUpto n c.loop-place.codes.items) (omega (arith, a, b))
    c.loop-place.invariant)
