use Rattle.std.proofs.Common.{◌≡◌, map}
use Rattle.std.specs.List.{range_with_len}
use Rattle.hv_command.specs.Sample.{move_from}
use Rattle.hv_command.proofs.sample.add_moves.Given as goal

abbrev pub invariant-loop-room : goal.invariant-loop-room
invariant-loop-room l =
    l.task ≡ record l.fn.task { actions = map (move_from l.rooms) (range_with_len 0 l.room) }
