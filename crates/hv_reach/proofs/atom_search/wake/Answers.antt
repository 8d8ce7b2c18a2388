use Rattle.std.proofs.Common.{◌∙◌, get_or, refl}
use Rattle.hv_reach.proofs.Waiting.{settled_more, step_both}
use Rattle.hv_reach.proofs.atom_search.wake.Goals as goal

pub loop-number-preserved : goal.loop-number-preserved
loop-number-preserved c =
    let i = c.loop-number.invariant in
    let s = c.in_ok-visit.ensures.step in
    let x = get_or c.args.numbers.now c.loop-number.number-index 0 in
    record {
      step = step_both _ _ _ _ _ _ i.step s;
      state = s.size ∙ i.state;
      actions = c.visit.ensures.actions ∙ i.actions;
      kept = c.in_ok-visit.ensures.kept;
      settled = settled_more c.args.task.now.actions c.args.numbers.now c.loop-number.number-index x
          c.loop-number.held c.visit.new.held
          c.loop-number.queue.items c.visit.new.queue.items c.loop-number.passed
          c.visit.new.passed refl s i.settled
          c.in_ok-visit.ensures.settles c.in_ok-visit.ensures.others;
      least = λ r keeps within. c.in_ok-visit.ensures.least r keeps (i.least r keeps within);
    }
