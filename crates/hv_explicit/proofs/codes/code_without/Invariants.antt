use Rattle.std.proofs.Common.{◌≡◌, ℕ, take}
use Rattle.hv_task.specs.State.{AreBelow}
use Rattle.hv_explicit.specs.Working.Codes.{code_sum, without}
use Rattle.hv_explicit.proofs.codes.code_without.Given as goal

abbrev pub invariant-loop-atom : goal.invariant-loop-atom
invariant-loop-atom l = (bound : ℕ) → AreBelow bound l.held → l.less ≡ code_sum l.key
    (without (take l.atom-index l.del) l.add l.held) bound
