use Rattle.std.proofs.Common.{arith, length}
use Rattle.hv_task.specs.Strips.{atoms}
use Rattle.hv_bound.specs.Bounded.{all_copies}
use Rattle.hv_bound.proofs.Copying.{counted_all, counted_next}
use Rattle.hv_bound.proofs.bound.count_all_copies.Goals as goal

pub loop-number-preserved : goal.loop-number-preserved
loop-number-preserved c =
    let i = c.loop-number.invariant in
    let small = i.small in
    let few = c.count_copies-count.ensures.few in
    record {
      counted = counted_next (atoms c.args.task.now) c.args.most c.args.task.now.actions
          c.loop-number.number c.action.result.now c.loop-number.count c.count_copies-count.result
          (length (all_copies (atoms c.args.task.now) c.args.most c.args.task.now.actions))
          c.action.ensures.named
          (c.count_copies-count.ensures.count (atoms c.args.task.now) c.loop-number.number)
          i.counted;
      small = omega arith;
    }

pub returns : goal.returns
returns c =
    counted_all (atoms c.args.task.now) c.args.most c.args.task.now.actions c.loop-number.number
    c.loop-number.count
    (length (all_copies (atoms c.args.task.now) c.args.most c.args.task.now.actions))
    (omega (arith, c.actions-number-end.ensures.actions)) c.loop-number.invariant.counted
