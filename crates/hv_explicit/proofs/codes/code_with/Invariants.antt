use Rattle.std.proofs.Common.{◌≡◌, ℕ, take}
use Rattle.hv_task.specs.State.{AreBelow}
use Rattle.hv_explicit.specs.Working.Codes.{code_sum, with_more, without}
use Rattle.hv_explicit.proofs.codes.code_with.Given as goal

abbrev pub invariant-loop-atom : goal.invariant-loop-atom
invariant-loop-atom l = (bound : ℕ) → AreBelow bound l.held → AreBelow bound l.add → l.more ≡
    code_sum l.key (with_more (take l.atom-index l.add) (without l.del l.add l.held)) bound
