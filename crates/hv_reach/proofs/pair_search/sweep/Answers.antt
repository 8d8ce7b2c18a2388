use Rattle.std.proofs.Common.{◌≤◌, ◌<◌}
use Rattle.hv_task.specs.Strips.{atoms}
use Rattle.hv_reach.proofs.Turns.{quiet_before, quiet_more, turn_both}
use Rattle.hv_reach.proofs.pair_search.sweep.Goals as goal

pub loop-flag-preserved : goal.loop-flag-preserved
loop-flag-preserved c =
    let i = c.loop-flag.invariant in
    let e = c.turn-moved.ensures in
    let flag = c.in-Some.flag in
    let next = rw c.in-Some.is at c.next_raised.ensures.next in
    record {
      turn = turn_both _ _ _ _ _ _ i.turn e.turn;
      quiet = quiet_more _ _ _ flag c.loop-flag.moved c.turn-moved.result e.turn
          (quiet_before c.loop-flag.search.flags c.loop-flag.from c.loop-flag.moved (λ y. y < flag)
          i.quiet next.2) e.lowered;
      search = e.search;
    }

pub returns-clause-quiet : goal.returns-clause-quiet
returns-clause-quiet c =
    let i = c.loop-flag.invariant in
    let none = rw c.in_default.is at c.next_raised.ensures.next in
    quiet_before c.loop-flag.search.flags c.loop-flag.from c.loop-flag.moved
    (λ y. y ≤ atoms c.args.task.now) i.quiet (λ y le _. none y le)
