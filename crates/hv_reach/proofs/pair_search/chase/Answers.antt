use Rattle.std.proofs.Common.{◌∙◌, ap, length, length-set, true}
use Rattle.hv_reach.proofs.Turns.{turn_both}
use Rattle.hv_reach.proofs.pair_search.chase.Goals as goal

pub turn-moved-requires-clause-search : goal.turn-moved-requires-clause-search
turn-moved-requires-clause-search c =
    let i = c.loop-round.invariant.search in
    record {
      table = i.table;
      size = i.size;
      ready = i.ready;
      told = i.told;
      stand = i.stand;
      sized = record {
        standing = i.sized.standing;
        mask = i.sized.mask;
        seen = ap length c.set.ensures
            ∙ (length-set c.loop-round.search.course.seen c.in-Some.atom true ∙ i.sized.seen);
      };
    }

pub loop-round-preserved : goal.loop-round-preserved
loop-round-preserved c =
    let e = c.turn-moved.ensures.turn in
    record {
      turn = turn_both _ _ _ c.turn-moved.new.search _ _ c.loop-round.invariant.turn (record {
        grows = e.grows;
        still = e.still;
        fewer = e.fewer;
        falls = e.falls;
        least = e.least;
      });
      search = c.turn-moved.ensures.search;
    }
