use Rattle.std.proofs.Common.{◌≡◌, map}
use Rattle.std.specs.List.{range_with_len}
use Rattle.hv_command.specs.Sample.{room_name}
use Rattle.hv_command.proofs.sample.add_rooms.Given as goal

abbrev pub invariant-loop-room : goal.invariant-loop-room
invariant-loop-room l =
    l.task ≡ record l.fn.task { names = map room_name (range_with_len 0 l.room) }
