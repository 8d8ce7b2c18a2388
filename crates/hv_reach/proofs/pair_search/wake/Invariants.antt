use Rattle.std.proofs.Common.{length}
use Rattle.hv_task.specs.Strips.{atoms}
use Rattle.hv_reach.specs.Working.Course.{AreNewsBelow, IsAskedFor, IsNews, IsRowTold, IsSized}
use Rattle.hv_reach.specs.Working.Course.{StandAllBut}
use Rattle.hv_reach.specs.Working.Table.{HaveTheirPairsBut, IsPairStep, KeepAllPairs}
use Rattle.hv_reach.specs.Working.Table.{PairsGrowWithin}
use Rattle.hv_reach.proofs.pair_search.wake.Given as goal

abbrev pub invariant-loop-number : goal.invariant-loop-number
invariant-loop-number l = record {
  step : IsPairStep (atoms l.task) l.fn.search.rows.items l.fn.search.flags l.search.rows.items
      l.search.flags l.moved;
  told : IsRowTold (atoms l.task) (IsAskedFor l.task.actions) l.search.rows.items l.search.flags
      l.search.course.told.items;
  news : AreNewsBelow (atoms l.task) l.search.course.news;
  sized : IsSized (atoms l.task) (length l.task.actions) l.search.course;
  stand : StandAllBut l.numbers l.number-index (IsNews l.search.course.news) l.task.actions
      l.search.course.told.items l.search.rows.items l.search.course.standing.items;
  ready : HaveTheirPairsBut l.numbers l.number-index (atoms l.task) l.task.actions
      l.search.rows.items l.search.flags;
  least : PairsGrowWithin (KeepAllPairs l.task.actions) l.fn.search.rows.items l.search.rows.items;
}
