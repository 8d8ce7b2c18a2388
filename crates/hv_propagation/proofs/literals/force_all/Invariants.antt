use Rattle.std.proofs.Common.{◌≡◌, ◌<◌, ℕ, true, Some, get_or}
use Rattle.hv_sets.specs.declared.literal.Literal.{Literal}
use Rattle.hv_sets.specs.Truth.{in_literal}
use Rattle.hv_propagation.specs.Marks.{over}
use Rattle.hv_propagation.specs.Units.{value_of, IsConcluded}
use Rattle.hv_propagation.specs.Trail.{Grows, marks_of}
use Rattle.hv_propagation.proofs.literals.force_all.Given as goal

abbrev pub invariant-loop-literal : goal.invariant-loop-literal
invariant-loop-literal l = record {
  concluded : IsConcluded
      (λ state. (k : ℕ) (d : Literal) → k < l.literal-index
      → in_literal (get_or l.literals k d) (over l.effect state) ≡ true)
      (λ marks. (k : ℕ) (d : Literal) → k < l.literal-index
      → value_of l.effect marks (get_or l.literals k d) ≡ Some true)
      (marks_of l.initial.marks) (marks_of l.marks) true;
  grown : Grows l.initial.marks l.marks;
}
