use Rattle.std.proofs.Common.{ℕ, ◌<◌, get_or}
use Rattle.hv_sets.specs.Query.{CanAnchor}
use Rattle.hv_sets.specs.declared.operand.Operand.{Operand}
use Rattle.hv_explicit.proofs.sets_query.anchor_of.Given as goal

abbrev pub invariant-loop-operand : goal.invariant-loop-operand
invariant-loop-operand l = (k : ℕ) (d : Operand) → k < l.operand-index
    → CanAnchor (get_or l.operands k d) → ⊥
