use Rattle.std.proofs.Common.{◌≡◌, ℕ, ◌<◌, Some, true}
use Rattle.hv_task.specs.State.{names_atom}
use Rattle.hv_task.specs.Strips.{start_state}
use Rattle.hv_sets.specs.Truth.{is_same}
use Rattle.hv_propagation.specs.Chase.{IsFollowed}
use Rattle.hv_propagation.specs.Marks.{over}
use Rattle.hv_propagation.specs.Trail.{marks_of}
use Rattle.hv_propagation.specs.Units.{value_of}
use Rattle.hv_clauses.proofs.problem.start_start.Given as goal

abbrev pub invariant-loop-atom : goal.invariant-loop-atom
invariant-loop-atom g l = record {
  followed : IsFollowed (λ state. is_same (start_state l.problem.task) (over l.effect state) ≡ true)
      l.fn.marks l.marks true;
  done : (k : ℕ) → k < l.atom → value_of l.effect (marks_of l.marks)
      (record { atom = k; positive = names_atom l.problem.task.start k }) ≡ Some true;
}
