use Rattle.hv_reach.specs.Working.Course.{IsPairSearch}
use Rattle.hv_reach.specs.Working.Table.{IsTurn}
use Rattle.hv_reach.proofs.pair_search.chase.Given as goal

abbrev pub invariant-loop-round : goal.invariant-loop-round
invariant-loop-round l = record {
  turn : IsTurn l.task.actions l.fn.search l.search l.moved;
  search : IsPairSearch l.task l.search;
}
