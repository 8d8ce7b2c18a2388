use Rattle.std.proofs.Common.{◌≡◌, length}
use Rattle.hv_trap.proofs.sweep.hold_others.Given as goal

abbrev pub invariant-loop-atom : goal.invariant-loop-atom
invariant-loop-atom l = length l.state ≡ length l.fn.state
