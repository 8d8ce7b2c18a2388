use Rattle.std.proofs.Common.{◌≡◌, ℕ, ◌+◌, ◌<◌, Some, true, get_or, slice_get}
use Rattle.hv_sets.specs.declared.operand.Operand.{Operand}
use Rattle.hv_propagation.specs.Chase.{IsFollowed}
use Rattle.hv_clauses.specs.Working.Posed.{InEach}
use Rattle.hv_clauses.specs.Working.Problem.{AreLeft, IsLeftOf}
use Rattle.hv_clauses.proofs.problem.visit_owners.Given as goal

abbrev pub invariant-loop-place : goal.invariant-loop-place
invariant-loop-place g l = record {
  followed : IsFollowed (InEach l.problem) l.fn.marks l.marks true;
  left : AreLeft l.problem l.marks l.from;
  seen : (k : ℕ) → k < l.place-index → (o : Operand)
      → slice_get l.problem.query.positive (get_or l.row k 0) ≡ Some o
      → IsLeftOf l.problem o l.marks (l.from + 1);
}
