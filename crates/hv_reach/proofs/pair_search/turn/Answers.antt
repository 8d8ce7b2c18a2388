use Rattle.std.proofs.Common.{arith}
use Rattle.hv_task.specs.Strips.{atoms}
use Rattle.hv_reach.proofs.Sets.{slice_get_at}
use Rattle.hv_reach.proofs.Turns.{lowered_after, ready_lowered, turn_from_step}
use Rattle.hv_reach.proofs.Served.{stand_told, told_lowered}
use Rattle.hv_reach.proofs.pair_search.turn.Goals as goal

pub wake-requires-clause-ready : goal.wake-requires-clause-ready
wake-requires-clause-ready c =
    let size = c.requires.index.size in
    let upto = c.requires.flag in
    rw (c.as_slice-row.ensures.value, c.set.ensures)
    (ready_lowered (atoms c.args.task.now) c.args.task.now.actions c.args.index.now.items
    c.index.result.now c.args.search.now.rows.items c.args.search.now.flags c.args.flag
    c.requires.index (slice_get_at c.args.index.now.items c.args.flag c.index.result.now
    (omega arith) c.index.ensures) c.requires.search.ready)

pub wake-requires-clause-told : goal.wake-requires-clause-told
wake-requires-clause-told c =
    let size = c.requires.index.size in
    let upto = c.requires.flag in
    rw c.set.ensures
    (told_lowered (atoms c.args.task.now) c.args.task.now.actions c.args.index.now.items
    c.index.result.now c.args.search.now.rows.items c.args.search.now.course.told.items
    c.tell.new.told.items c.args.search.now.flags c.args.flag c.tell.new.news c.requires.index
    (slice_get_at c.args.index.now.items c.args.flag c.index.result.now (omega arith)
    c.index.ensures) c.requires.search.table c.requires.search.told
    (rw (c.as_slice-row.ensures.value, c.atoms.ensures.atoms) at c.tell.ensures))

pub wake-requires-clause-stand : goal.wake-requires-clause-stand
wake-requires-clause-stand c =
    let size = c.requires.index.size in
    let upto = c.requires.flag in
    rw c.as_slice-row.ensures.value
    (stand_told (atoms c.args.task.now) c.index.result.now.items c.args.search.now.rows.items
    c.args.search.now.course.told.items c.tell.new.told.items c.args.flag c.tell.new.news
    (rw (c.as_slice-row.ensures.value, c.atoms.ensures.atoms) at c.tell.ensures)
    c.args.task.now.actions c.args.index.now.items c.index.result.now
    c.args.search.now.course.standing.items c.requires.index
    (slice_get_at c.args.index.now.items c.args.flag c.index.result.now (omega arith)
    c.index.ensures) c.requires.search.stand)

pub returns-clause-turn : goal.returns-clause-turn
returns-clause-turn c =
    turn_from_step (atoms c.args.task.now) c.args.task.now.actions c.args.search.now
    c.wake.new.search c.args.flag c.wake.result
    (rw c.set.ensures at c.wake.ensures.step) c.wake.ensures.least

pub returns-clause-lowered : goal.returns-clause-lowered
returns-clause-lowered c =
    lowered_after (atoms c.args.task.now) c.args.search.now.rows.items c.wake.new.search.rows.items
    c.args.search.now.flags c.wake.new.search.flags c.args.flag c.wake.result
    (rw c.set.ensures at c.wake.ensures.step)
