use Rattle.std.proofs.Common.{◌≡◌, ℕ, ◌<◌, true, false}
use Rattle.hv_basic.specs.Working.Flags.{flag_or_false}
use Rattle.hv_basic.proofs.acts_verdicts.has_outside.Given as goal

abbrev pub invariant-loop-k : goal.invariant-loop-k
invariant-loop-k l = l.found ≡ false → (j : ℕ) → j < l.k → flag_or_false l.firsts j ≡ true
    → flag_or_false l.seconds j ≡ true
