use Rattle.std.proofs.Common.{◌≡◌, ℕ, ◌<◌, get_or}
use Rattle.hv_sets.specs.declared.literal.Literal.{Literal}
use Rattle.hv_indexes.proofs.implied.other_of.Given as goal

abbrev pub invariant-loop-literal : goal.invariant-loop-literal
invariant-loop-literal l = (k : ℕ) (d : Literal) → k < l.literal-index
    → get_or l.clause k d ≡ l.first
