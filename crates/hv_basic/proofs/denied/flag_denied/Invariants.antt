use Rattle.std.proofs.Common.{◌≡◌, ◌⊎◌, ℕ, length, true}
use Rattle.hv_basic.specs.Working.Denied.{HasDenial}
use Rattle.hv_basic.specs.Working.Flags.{flag_or_false}
use Rattle.hv_basic.proofs.denied.flag_denied.Given as goal

abbrev pub invariant-loop-place : goal.invariant-loop-place
invariant-loop-place l = record {
  size : length l.flags.items ≡ length l.fn.flags.items;
  denied : (atom : ℕ) → flag_or_false l.flags.items atom ≡ true
      → (flag_or_false l.fn.flags.items atom ≡ true) ⊎ HasDenial l.clauses atom;
}
