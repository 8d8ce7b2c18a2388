use Rattle.std.proofs.Common.{◌≤◌, ◌-◌, true, length}
use Rattle.hv_propagation.specs.Chase.{IsFollowed}
use Rattle.hv_formula.proofs.formula_ask.seek.Given as goal

abbrev pub invariant-loop-place : goal.invariant-loop-place
invariant-loop-place g l = record {
  followed : IsFollowed (g.C.Constraint.admits l.constraint) l.fn.marks l.marks true;
  within : l.place ≤ length l.marks.trail;
  left : g.C.Constraint.left l.constraint l.marks l.place;
}

abbrev pub decreases-loop-place : goal.decreases-loop-place
decreases-loop-place g l = length l.marks.roots - l.place
