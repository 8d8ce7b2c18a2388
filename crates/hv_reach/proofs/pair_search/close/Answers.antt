use Rattle.hv_task.specs.Strips.{atoms}
use Rattle.hv_reach.proofs.Turns.{keeps_quiet, work_falls}
use Rattle.hv_reach.proofs.pair_search.close.Goals as goal

pub loop-moved-preserved : goal.loop-moved-preserved
loop-moved-preserved c =
    let i = c.loop-moved.invariant in
    let f = c.settle.ensures in
    let e = c.sweep-moved.ensures in
    record {
      search = e.search;
      grows = λ p q h. e.turn.grows p q (f.turn.grows p q (i.grows p q h));
      quiet = e.quiet;
      least = λ r even keeps within. e.turn.least r even keeps
          (f.turn.least r even keeps (i.least r even keeps within));
    }

pub returns-clause-keeps : goal.returns-clause-keeps
returns-clause-keeps c =
    let i = c.loop-moved.invariant in
    keeps_quiet (atoms c.args.task.now) c.args.task.now.actions c.loop-moved.search.rows.items
    c.loop-moved.search.flags i.search.size i.search.ready (i.quiet c.loop-moved-test.false)

pub loop-moved-smaller : goal.loop-moved-smaller
loop-moved-smaller c =
    rw c.loop-moved-test.true
    (work_falls c.args.task.now.actions c.loop-moved.search c.settle.new.search
    c.sweep-moved.new.search c.settle.result c.sweep-moved.result c.settle.ensures.turn
    c.sweep-moved.ensures.turn)
