use Rattle.std.proofs.Common.{◌≡◌, ℕ, true, get_or, arith, refl}
use Rattle.hv_task.specs.State.{has_atom}
use Rattle.hv_reach.proofs.Sets.{All-from_zero}
use Rattle.hv_reach.proofs.Steps.{done_more, pair_step_both}
use Rattle.hv_reach.specs.Reached.{has_pair}
use Rattle.hv_reach.proofs.pair_table.join_all.Goals as goal

pub loop-first-preserved : goal.loop-first-preserved
loop-first-preserved c =
    let i = c.loop-first.invariant in
    let e = c.join_one-moved.ensures in
    let x = get_or c.args.list.now c.loop-first.first-index 0 in
    record {
      step = pair_step_both _ _ _ _ _ _ _ _ _ i.step e.step;
      done = done_more (λ p. (q : ℕ) → has_atom c.args.mask.now q ≡ true
          → has_pair c.loop-first.rows.items p q ≡ true)
          (λ p. (q : ℕ) → has_atom c.args.mask.now q ≡ true
          → has_pair c.join_one-moved.new.rows.items p q ≡ true) c.args.list.now
          c.loop-first.first-index x refl (λ p h. λ q m. e.step.grows p q (h q m)) e.set i.done;
      least = λ r even all within. e.least r even (all c.loop-first.first-index 0 (omega arith))
          (i.least r even all within);
    }

pub returns-clause-set : goal.returns-clause-set
returns-clause-set c = All-from_zero (λ p. (q : ℕ) → has_atom c.args.mask.now q ≡ true
    → has_pair c.loop-first.rows.items p q ≡ true) c.args.list.now
    (λ k less. c.loop-first.invariant.done k (omega arith))
