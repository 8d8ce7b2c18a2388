use Rattle.hv_reach.proofs.Turns.{turn_both}
use Rattle.hv_reach.proofs.pair_search.sweep_short.Goals as goal

pub loop-flag-preserved : goal.loop-flag-preserved
loop-flag-preserved c = record {
  turn = turn_both _ _ _ _ _ _ c.loop-flag.invariant.turn c.turn_short-moved.ensures.turn;
  search = c.turn_short-moved.ensures.search;
}
