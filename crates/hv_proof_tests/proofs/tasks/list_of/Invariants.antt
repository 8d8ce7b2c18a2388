use Rattle.hv_task.specs.State.{AreBelow}
use Rattle.hv_proof_tests.proofs.tasks.list_of.Given as goal

abbrev pub invariant-loop-atom : goal.invariant-loop-atom
invariant-loop-atom l = AreBelow l.bound l.list
