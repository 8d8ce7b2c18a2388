use Rattle.std.proofs.Common.{length, true}
use Rattle.hv_propagation.specs.Completion.{IsTried}
use Rattle.hv_propagation.specs.Marks.{AllKnown}
use Rattle.hv_propagation.specs.Trail.{Grows, marks_of}
use Rattle.hv_propagation.proofs.propagation.settle_all.Given as goal

abbrev pub invariant-loop-atom : goal.invariant-loop-atom
invariant-loop-atom g l = record {
  tried : IsTried (g.C.Constraint.admits l.constraint) (g.C.Constraint.settled l.constraint)
      (AllKnown l.atom) (marks_of l.initial.marks) (marks_of l.marks) true;
  grown : Grows l.initial.marks l.marks;
  left : g.C.Constraint.left l.constraint l.marks (length l.marks.trail);
}
