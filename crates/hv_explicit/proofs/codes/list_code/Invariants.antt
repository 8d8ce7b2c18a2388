use Rattle.std.proofs.Common.{◌≡◌, ℕ, take}
use Rattle.hv_task.specs.State.{AreBelow, names_atom}
use Rattle.hv_explicit.specs.Working.Codes.{code_sum}
use Rattle.hv_explicit.proofs.codes.list_code.Given as goal

abbrev pub invariant-loop-atom : goal.invariant-loop-atom
invariant-loop-atom l = (bound : ℕ) → AreBelow bound l.list → l.code ≡ code_sum l.key
    (names_atom (take l.atom-index l.list)) bound
