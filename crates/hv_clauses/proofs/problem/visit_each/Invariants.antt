use Rattle.std.proofs.Common.{ℕ, ◌+◌, ◌<◌, true, get_or}
use Rattle.hv_sets.specs.declared.operand.Operand.{Operand}
use Rattle.hv_propagation.specs.Chase.{IsFollowed}
use Rattle.hv_clauses.specs.Working.Posed.{InEach}
use Rattle.hv_clauses.specs.Working.Problem.{AreLeft, IsLeftOf}
use Rattle.hv_clauses.proofs.problem.visit_each.Given as goal

abbrev pub invariant-loop-operand : goal.invariant-loop-operand
invariant-loop-operand g l = record {
  followed : IsFollowed (InEach l.problem) l.fn.marks l.marks true;
  left : AreLeft l.problem l.marks l.from;
  seen : (k : ℕ) → k < l.operand-index → (f : Operand)
      → IsLeftOf l.problem (get_or l.positive k f) l.marks (l.from + 1);
}
