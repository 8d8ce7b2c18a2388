use Rattle.std.proofs.Common.{◌≡◌}
use Rattle.hv_task.specs.Strips.{atoms}
use Rattle.hv_proof_tests.proofs.tasks.task_with.Given as goal

abbrev pub invariant-loop-change : goal.invariant-loop-change
invariant-loop-change l = atoms l.task ≡ l.count
