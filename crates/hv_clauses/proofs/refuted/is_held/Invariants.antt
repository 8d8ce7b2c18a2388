use Rattle.std.proofs.Common.{◌≡◌, ℕ, ◌<◌, [], Some, not, get_or}
use Rattle.hv_sets.specs.declared.literal.Literal.{Literal}
use Rattle.hv_propagation.specs.Units.{value_of}
use Rattle.hv_clauses.proofs.refuted.is_held.Given as goal

abbrev pub invariant-loop-literal : goal.invariant-loop-literal
invariant-loop-literal l = record {
  held : (k : ℕ) (d : Literal) → k < l.literal-index
      → value_of l.effect [] (get_or l.clause k d) ≡ Some (not l.after) → ⊥;
}
