use Rattle.std.proofs.Common.{◌≡◌, ◌<◌, ◌≤◌, ◌/◌, ◌&&◌, not, ℕ, false}
use Rattle.hv_task.specs.Working.Words.{flag_at}
use Rattle.hv_task.proofs.bits.next_outside.Given as goal

abbrev pub invariant-loop-at : goal.invariant-loop-at
invariant-loop-at l = (p : ℕ) → l.from ≤ p → p / 64 < l.at
    → (flag_at l.words p && not (flag_at l.other p)) ≡ false
