use Rattle.std.proofs.Common.{ℕ, ◌<◌, ◌≤◌, true, get_or, length}
use Rattle.hv_sets.specs.declared.operand.Operand.{Operand}
use Rattle.hv_propagation.specs.Chase.{IsFollowed}
use Rattle.hv_clauses.specs.Working.Early.{AreEarlyLeft}
use Rattle.hv_clauses.specs.Working.Posed.{InEach}
use Rattle.hv_clauses.specs.Working.Problem.{IsLeftOf}
use Rattle.hv_clauses.proofs.problem.start_late.Given as goal

abbrev pub invariant-loop-operand : goal.invariant-loop-operand
invariant-loop-operand g l = record {
  followed : IsFollowed (InEach l.problem) l.fn.marks l.marks true;
  seen : (from : ℕ) → from ≤ length l.fn.marks.trail → AreEarlyLeft l.problem l.fn.marks from
      → (k : ℕ) → k < l.operand-index → (f : Operand)
      → IsLeftOf l.problem (get_or l.positive k f) l.marks from;
}
