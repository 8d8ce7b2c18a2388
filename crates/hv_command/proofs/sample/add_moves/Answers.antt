use Rattle.hv_command.proofs.Sampled.{move_added, move_fits}
use Rattle.hv_command.proofs.sample.add_moves.Goals as goal

pub add_action-requires-clause-room : goal.add_action-requires-clause-room
add_action-requires-clause-room c =
    move_fits c.args.rooms c.loop-room.room c.args.task.now c.loop-room.task c.requires.rooms
    c.loop-room-test.true c.loop-room.invariant

pub loop-room-preserved : goal.loop-room-preserved
loop-room-preserved c =
    move_added c.args.rooms c.loop-room.room c.args.task.now c.loop-room.task c.add_action.new.self
    c.in_ok-move_from.field-0 c.loop-room.invariant
    c.in_ok-move_from.ensures c.in_ok-add_action.ensures.ok
