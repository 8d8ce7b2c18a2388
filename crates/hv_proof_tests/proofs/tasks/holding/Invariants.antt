use Rattle.std.proofs.Common.{◌≡◌, length}
use Rattle.hv_task.specs.Strips.{atoms}
use Rattle.hv_proof_tests.proofs.tasks.holding.Given as goal

abbrev pub invariant-loop-atom : goal.invariant-loop-atom
invariant-loop-atom l = length l.state ≡ atoms l.task
