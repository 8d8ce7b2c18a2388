use Rattle.hv_command.proofs.Sampled.{room_added, room_fits}
use Rattle.hv_command.proofs.sample.add_rooms.Goals as goal

pub add_atom-requires : goal.add_atom-requires
add_atom-requires c =
    room_fits c.args.rooms c.loop-room.room c.args.task.now c.loop-room.task c.requires.rooms
    c.loop-room-test.true c.loop-room.invariant

pub loop-room-preserved : goal.loop-room-preserved
loop-room-preserved c =
    room_added c.loop-room.room c.args.task.now c.loop-room.task c.add_atom.new.self
    c.in_ok-numbered.field-0 c.loop-room.invariant
    c.in_ok-numbered.ensures c.in_ok-add_atom.ensures.ok
