use Rattle.std.proofs.Common.{◌≡◌, ◌<◌, ℕ, false, get_or}
use Rattle.hv_basic.specs.Working.Flags.{flag_or_false}
use Rattle.hv_basic.proofs.turned_by_look.has_flag.Given as goal

abbrev pub invariant-loop-atom : goal.invariant-loop-atom
invariant-loop-atom l =
    (j : ℕ) → j < l.atom-index → flag_or_false l.flags (get_or l.atoms j 0) ≡ false
