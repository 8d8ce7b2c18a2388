use Rattle.std.proofs.Common.{◌<◌, ℕ, get_or}
use Rattle.hv_sets.specs.declared.literal.Literal.{Literal}
use Rattle.hv_basic.specs.Working.Excluded.{IsAgainst}
use Rattle.hv_basic.proofs.companions.is_exclusion.Given as goal

abbrev pub invariant-loop-literal : goal.invariant-loop-literal
invariant-loop-literal l =
    (j : ℕ) (d : Literal) → j < l.literal-index → IsAgainst l.atoms l.value (get_or l.clause j d)
