use Rattle.std.proofs.Common.{◌≡◌, ◌-◌, length}
use Rattle.hv_clauses.specs.Working.Front.{AreRefuted}
use Rattle.hv_clauses.proofs.fronts.choose_each.Given as goal

abbrev pub invariant-loop-number : goal.invariant-loop-number
invariant-loop-number g l = record {
  refuted : AreRefuted l.problem 0 l.number;
  same : l.marks ≡ l.fn.marks;
  state : length l.state ≡ length l.fn.state;
}

abbrev pub decreases-loop-number : goal.decreases-loop-number
decreases-loop-number g l = l.cost - l.number
