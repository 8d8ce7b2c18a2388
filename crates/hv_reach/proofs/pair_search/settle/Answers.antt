use Rattle.hv_reach.proofs.Turns.{turn_both}
use Rattle.hv_reach.proofs.pair_search.settle.Goals as goal

pub loop-round-preserved : goal.loop-round-preserved
loop-round-preserved c = record {
  turn = turn_both _ _ _ _ _ _
      (turn_both _ _ _ _ _ _ c.loop-round.invariant.turn c.chase-moved.ensures.turn)
      c.sweep_short-more.ensures.turn;
  search = c.sweep_short-more.ensures.search;
}

pub returns-then-not-more-clause-turn : goal.returns-then-not-more-clause-turn
returns-then-not-more-clause-turn c =
    turn_both _ _ _ _ _ _
    (turn_both _ _ _ _ _ _ c.loop-round.invariant.turn c.chase-moved.ensures.turn)
    c.sweep_short-more.ensures.turn
