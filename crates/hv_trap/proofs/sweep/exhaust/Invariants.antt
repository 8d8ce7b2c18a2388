use Rattle.std.proofs.Common.{◌≡◌, ◌<◌, ◌≤◌, true, length}
use Rattle.hv_trap.specs.Working.Room.{HasStates}
use Rattle.hv_trap.specs.Working.Trap.{EncloseTrap}
use Rattle.hv_trap.proofs.sweep.exhaust.Given as goal

abbrev pub invariant-loop-rows : goal.invariant-loop-rows
invariant-loop-rows l = record {
  room : HasStates l.task l.room;
  enclose : EncloseTrap l.task l.clauses;
  few : length l.clauses ≤ length l.fn.clauses;
  fewer : l.found ≡ true → length l.clauses < length l.fn.clauses;
}

abbrev pub decreases-loop-rows : goal.decreases-loop-rows
decreases-loop-rows l = length l.clauses
