use Rattle.std.proofs.Common.{◌≡◌, ◌<◌, ℕ, true, Some, get_or}
use Rattle.hv_sets.specs.declared.literal.Literal.{Literal}
use Rattle.hv_propagation.specs.Trail.{marks_of}
use Rattle.hv_propagation.specs.Units.{value_of}
use Rattle.hv_propagation.proofs.literals.has_true.Given as goal

abbrev pub invariant-loop-literal : goal.invariant-loop-literal
invariant-loop-literal l =
    (k : ℕ) (d : Literal) → k < l.literal-index
    → value_of l.effect (marks_of l.marks) (get_or l.clause k d) ≡ Some true → ⊥
