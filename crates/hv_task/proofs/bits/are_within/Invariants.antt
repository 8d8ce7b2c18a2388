use Rattle.std.proofs.Common.{◌≡◌, ◌<◌, ◌/◌, ℕ, true}
use Rattle.hv_task.specs.Working.Words.{flag_at}
use Rattle.hv_task.proofs.bits.are_within.Given as goal

abbrev pub invariant-loop-at : goal.invariant-loop-at
invariant-loop-at l = (p : ℕ) → p / 64 < l.at → flag_at l.words p ≡ true
    → flag_at l.other p ≡ true
