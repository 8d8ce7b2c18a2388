use Rattle.std.proofs.Common.{arith}
use Rattle.hv_indexes.proofs.ImpliedRows.{standing_all, standing_more}
use Rattle.hv_indexes.proofs.implied.put_standing.Goals as goal

pub loop-index-preserved : goal.loop-index-preserved
loop-index-preserved c =
    standing_more c.args.turned c.args.clauses.now c.args.standing.now.literal
    c.args.standing.now.places.now
    c.loop-index.index c.args.codes.now.items c.loop-index.codes.items c.put_at.new.codes.items
    c.loop-index.invariant c.in_ok-put_at.ensures

pub returns : goal.returns
returns c =
    standing_all c.args.turned c.args.clauses.now c.args.standing.now.literal
    c.args.standing.now.places.now
    c.loop-index.index c.args.codes.now.items c.loop-index.codes.items
    (let end = c.loop-index-test.false in omega arith) c.loop-index.invariant
