use Rattle.std.proofs.Common.{◌≡◌, ℕ, ◌<◌, Some, true, get_or}
use Rattle.hv_task.specs.State.{has_atom}
use Rattle.hv_propagation.specs.Marks.{known}
use Rattle.hv_propagation.specs.Units.{IsConcluded}
use Rattle.hv_propagation.specs.Trail.{Grows, marks_of}
use Rattle.hv_clauses.proofs.precondition.force_in.Given as goal

abbrev pub invariant-loop-atom : goal.invariant-loop-atom
invariant-loop-atom l = record {
  so_far : IsConcluded (λ state. (k : ℕ) → k < l.atom-index
      → has_atom state (get_or l.atoms k 0) ≡ true)
      (λ marks. (k : ℕ) → k < l.atom-index → known marks (get_or l.atoms k 0) ≡ Some true)
      (marks_of l.fn.marks) (marks_of l.marks) true;
  grown : Grows l.fn.marks l.marks;
}
