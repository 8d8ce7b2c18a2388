use Rattle.hv_explicit.specs.Working.Search.{clashes_at}
use Rattle.hv_explicit.proofs.Holding.{all_but_none}
use Rattle.hv_explicit.proofs.sets_query.SetsQuery.answer_in.Goals as goal

pub find_among-requires-in-None-clause-places : goal.find_among-requires-in-None-clause-places
find_among-requires-in-None-clause-places c =
    all_but_none (clashes_at c.args.self.now) c.args.set.now.states c.firsts.result.now
    c.firsts.ensures
