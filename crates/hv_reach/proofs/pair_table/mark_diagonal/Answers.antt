use Rattle.std.proofs.Common.{◌≡◌, true, get_or, arith, refl}
use Rattle.hv_reach.proofs.Sets.{All-from_zero}
use Rattle.hv_reach.proofs.Steps.{done_more, pair_step_both}
use Rattle.hv_reach.specs.Reached.{has_pair}
use Rattle.hv_reach.proofs.pair_table.mark_diagonal.Goals as goal

pub loop-atom-preserved : goal.loop-atom-preserved
loop-atom-preserved c =
    let i = c.loop-atom.invariant in
    let e = c.mark-moved.ensures in
    let x = get_or c.args.list.now c.loop-atom.atom-index 0 in
    record {
      step = pair_step_both _ _ _ _ _ _ _ _ _ i.step e.step;
      done = done_more (λ p. has_pair c.loop-atom.rows.items p p ≡ true)
          (λ p. has_pair c.mark-moved.new.rows.items p p ≡ true) c.args.list.now
          c.loop-atom.atom-index x refl (λ p h. e.step.grows p p h) e.set i.done;
      least = λ r even all within. e.least r even (all c.loop-atom.atom-index 0 (omega arith))
          (i.least r even all within);
    }

pub returns-clause-set : goal.returns-clause-set
returns-clause-set c = All-from_zero (λ p. has_pair c.loop-atom.rows.items p p ≡ true)
    c.args.list.now (λ k less. c.loop-atom.invariant.done k (omega arith))
