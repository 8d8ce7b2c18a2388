use Rattle.std.proofs.Common.{◌<◌, ℕ, get_or}
use Rattle.hv_sets.specs.declared.literal.Literal.{Literal}
use Rattle.hv_basic.specs.Sharing.{NamesLiteral}
use Rattle.hv_basic.proofs.told.are_among.Given as goal

abbrev pub invariant-loop-literal : goal.invariant-loop-literal
invariant-loop-literal l = (k : ℕ) (d : Literal) → k < l.literal-index
    → NamesLiteral l.enough (get_or l.clause k d)
