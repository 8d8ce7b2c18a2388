use Rattle.hv_indexes.proofs.ImpliedRows.{signed_all}
use Rattle.hv_indexes.proofs.implied.codes_of.Goals as goal

pub returns : goal.returns
returns c =
    signed_all c.come_in_order-turned.result c.args.clauses.now c.new-codes.result.items
    c.put_signed.new.codes.items c.put_signed-2.new.codes.items c.new-codes.ensures.items c.in_ok-put_signed.ensures
    c.in_ok-put_signed-2.ensures
