use Rattle.std.proofs.Common.{◌-◌, length}
use Rattle.hv_reach.specs.Working.Course.{IsPairSearch}
use Rattle.hv_reach.specs.Working.Table.{IsTurn}
use Rattle.hv_reach.proofs.pair_search.sweep_short.Given as goal

abbrev pub invariant-loop-flag : goal.invariant-loop-flag
invariant-loop-flag l = record {
  turn : IsTurn l.task.actions l.fn.search l.search l.moved;
  search : IsPairSearch l.task l.search;
}

abbrev pub decreases-loop-flag : goal.decreases-loop-flag
decreases-loop-flag l = length l.search.flags - l.from
