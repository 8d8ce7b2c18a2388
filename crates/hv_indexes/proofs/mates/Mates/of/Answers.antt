use Rattle.std.proofs.Common.{refl}
use Rattle.hv_indexes.proofs.Mated.{mates_are}
use Rattle.hv_indexes.proofs.mates.Mates.of.Goals as goal

pub returns : goal.returns
returns c =
    mates_are c.args.clauses.now c.in_ok-put.put
    (record {
      negative = c.in_ok-negative.negative;
      positive = c.in_ok-positive.positive;
      others = c.in_ok-put.put.others;
    }) c.in_ok-put.ensures.put c.in_ok-put.ensures.few c.in_ok-negative.ensures.are
    c.in_ok-positive.ensures.are refl c.in_ok-negative.ensures.owned
    c.in_ok-positive.ensures.owned
