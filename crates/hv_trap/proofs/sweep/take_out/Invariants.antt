use Rattle.std.proofs.Common.{length}
use Rattle.hv_trap.specs.Working.Room.{HasStates}
use Rattle.hv_trap.specs.Working.Trap.{EncloseTrap}
use Rattle.hv_trap.proofs.sweep.take_out.Given as goal

abbrev pub invariant-loop-room : goal.invariant-loop-room
invariant-loop-room l = record {
  room : HasStates l.task l.room;
  enclose : EncloseTrap l.task
      l.clauses;
}

abbrev pub decreases-loop-room : goal.decreases-loop-room
decreases-loop-room l = length l.clauses
