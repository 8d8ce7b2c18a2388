use Rattle.std.proofs.Common.{◌≡◌, ℕ, ◌<◌, ◌≤◌, Some, slice_get}
use Rattle.hv_sets.specs.declared.operand.Operand.{Operand}
use Rattle.hv_sets.specs.declared.operand.Which.TheVariants as W
use Rattle.hv_clauses.proofs.refuted.first_filled.Given as goal

abbrev pub invariant-loop-place : goal.invariant-loop-place
invariant-loop-place l = (k : ℕ) (o : Operand) → l.from ≤ k → k < l.place
    → slice_get l.operands k ≡ Some o → o.which ≡ W.Empty
