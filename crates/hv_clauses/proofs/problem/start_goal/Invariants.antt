use Rattle.std.proofs.Common.{◌≡◌, ℕ, ◌<◌, Some, true, get_or}
use Rattle.hv_task.specs.Strips.{is_goal}
use Rattle.hv_propagation.specs.Chase.{IsFollowed}
use Rattle.hv_propagation.specs.Marks.{over}
use Rattle.hv_propagation.specs.Trail.{marks_of}
use Rattle.hv_propagation.specs.Units.{value_of}
use Rattle.hv_clauses.proofs.problem.start_goal.Given as goal

abbrev pub invariant-loop-atom : goal.invariant-loop-atom
invariant-loop-atom g l = record {
  followed : IsFollowed (λ state. is_goal l.problem.task (over l.effect state) ≡ true) l.fn.marks
      l.marks true;
  done : (k : ℕ) → k < l.atom-index → value_of l.effect (marks_of l.marks)
      (record { atom = get_or l.goal k 0; positive = true }) ≡ Some true;
}
