use Rattle.std.proofs.Common.{◌≡◌, ◌<◌, ◌≤◌, true, length}
use Rattle.hv_trap.specs.Working.Room.{HasStates}
use Rattle.hv_trap.specs.Working.Trap.{EncloseTrap}
use Rattle.hv_trap.proofs.sweep.sweep.Given as goal

abbrev pub invariant-loop-action : goal.invariant-loop-action
invariant-loop-action l = record {
  room : HasStates l.task l.room;
  enclose : EncloseTrap l.task l.clauses;
  few : length l.clauses ≤ length l.fn.clauses;
  fewer : l.moved ≡ true → length l.clauses < length l.fn.clauses;
}
