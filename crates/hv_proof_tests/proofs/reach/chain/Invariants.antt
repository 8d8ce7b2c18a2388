use Rattle.std.proofs.Common.{◌≡◌}
use Rattle.hv_task.specs.Strips.{atoms}
use Rattle.hv_proof_tests.proofs.reach.chain.Given as goal

abbrev pub invariant-loop-atom : goal.invariant-loop-atom
invariant-loop-atom l = atoms l.task ≡ 70
