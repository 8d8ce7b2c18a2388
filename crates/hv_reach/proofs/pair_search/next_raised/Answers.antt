use Rattle.hv_reach.proofs.Served.{raised_within}
use Rattle.hv_reach.proofs.pair_search.next_raised.Goals as goal

pub returns-clause-within : goal.returns-clause-within
returns-clause-within c = raised_within c.args.flags.now c.args.from c.next.result c.next.ensures
