use Rattle.std.proofs.Common.{◌≡◌, true, get_or, arith, refl}
use Rattle.hv_reach.proofs.Sets.{All-from_zero}
use Rattle.hv_reach.proofs.Steps.{done_more, pair_step_both}
use Rattle.hv_reach.specs.Reached.{has_pair}
use Rattle.hv_reach.proofs.pair_table.mark_row.Goals as goal

pub loop-second-preserved : goal.loop-second-preserved
loop-second-preserved c =
    let i = c.loop-second.invariant in
    let e = c.mark-moved.ensures in
    let x = get_or c.args.list.now c.loop-second.second-index 0 in
    record {
      step = pair_step_both _ _ _ _ _ _ _ _ _ i.step e.step;
      done = done_more (λ q. has_pair c.loop-second.rows.items c.args.first q ≡ true)
          (λ q. has_pair c.mark-moved.new.rows.items c.args.first q ≡ true) c.args.list.now
          c.loop-second.second-index x refl (λ q h. e.step.grows c.args.first q h) e.set i.done;
      least = λ r even all within. e.least r even (all c.loop-second.second-index 0 (omega arith))
          (i.least r even all within);
    }

pub returns-clause-set : goal.returns-clause-set
returns-clause-set c = All-from_zero (λ q. has_pair c.loop-second.rows.items c.args.first q ≡ true)
    c.args.list.now (λ k less. c.loop-second.invariant.done k (omega arith))
