use Rattle.std.proofs.Common.{◌≡◌, [], length}
use Rattle.hv_propagation.specs.Chase.{AreKept}
use Rattle.hv_formula.proofs.closure.try_each.Given as goal

abbrev pub invariant-loop-index : goal.invariant-loop-index
invariant-loop-index g l = record {
  roots : l.marks.roots ≡ l.initial.marks.roots;
  left : AreKept [] l.bare.clauses.now l.marks (length l.marks.trail);
}
