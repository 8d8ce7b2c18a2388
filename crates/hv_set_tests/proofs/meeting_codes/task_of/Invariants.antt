use Rattle.std.proofs.Common.{◌≡◌}
use Rattle.hv_task.specs.Strips.{atoms}
use Rattle.hv_set_tests.proofs.meeting_codes.task_of.Given as goal

abbrev pub invariant-loop-number : goal.invariant-loop-number
invariant-loop-number l = atoms l.task ≡ l._number
