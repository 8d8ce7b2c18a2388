use Rattle.std.proofs.Common.{◌≡◌, true, get_or, arith, refl}
use Rattle.std.specs.List.{All}
use Rattle.hv_reach.proofs.Sets.{All-from_zero}
use Rattle.hv_reach.proofs.Steps.{done_more, pair_step_both}
use Rattle.hv_reach.specs.Reached.{has_pair}
use Rattle.hv_reach.proofs.pair_table.mark_square.Goals as goal

pub loop-first-preserved : goal.loop-first-preserved
loop-first-preserved c =
    let i = c.loop-first.invariant in
    let e = c.mark_row-moved.ensures in
    let x = get_or c.args.list.now c.loop-first.first-index 0 in
    record {
      step = pair_step_both _ _ _ _ _ _ _ _ _ i.step e.step;
      done = done_more (λ p. All (λ q. has_pair c.loop-first.rows.items p q ≡ true) c.args.list.now)
          (λ p. All (λ q. has_pair c.mark_row-moved.new.rows.items p q ≡ true) c.args.list.now)
          c.args.list.now c.loop-first.first-index x refl
          (λ p h. λ j d less. e.step.grows p (get_or c.args.list.now j d) (h j d less)) e.set
          i.done;
      least = λ r even all within. e.least r even (all c.loop-first.first-index 0 (omega arith))
          (i.least r even all within);
    }

pub returns-clause-set : goal.returns-clause-set
returns-clause-set c = All-from_zero (λ p. All
    (λ q. has_pair c.loop-first.rows.items p q ≡ true) c.args.list.now) c.args.list.now
    (λ k less. c.loop-first.invariant.done k (omega arith))
