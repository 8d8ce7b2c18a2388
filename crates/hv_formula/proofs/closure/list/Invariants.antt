use Rattle.std.proofs.Common.{◌≡◌, ℕ, ◌<◌, length}
use Rattle.hv_formula.specs.Working.Closure.{ListsBelow}
use Rattle.hv_propagation.specs.Marks.{known}
use Rattle.hv_propagation.specs.Trail.{marked, marks_of}
use Rattle.hv_formula.proofs.closure.list.Given as goal

abbrev pub invariant-loop-atom : goal.invariant-loop-atom
invariant-loop-atom l = record {
  listed : ListsBelow l.atom l.forced.items;
  same : (p : ℕ) → p < l.atom → known (marked (length l.marks.roots) l.forced.items) p
      ≡ known (marks_of l.marks) p;
}
