use Rattle.std.proofs.Common.{◌≡◌, ◌≤◌, ◌-◌, ℕ, true, length}
use Rattle.hv_propagation.specs.Chase.{IsFollowed}
use Rattle.hv_propagation.specs.declared.propagation.Bound.TheVariants as Bounds
use Rattle.hv_propagation.proofs.propagation.follow.Given as goal

abbrev pub invariant-loop-place : goal.invariant-loop-place
invariant-loop-place g l = record {
  followed : IsFollowed (g.C.Constraint.admits l.constraint) l.fn.marks l.marks true;
  within : l.place ≤ length l.marks.trail;
  left : g.C.Constraint.left l.constraint l.marks l.place;
  end : l.fn.bound ≡ Bounds.End → l.rest ≡ Bounds.End;
  place : (upto : ℕ) → l.fn.bound ≡ Bounds.Place upto → l.rest ≡ Bounds.Place upto;
}

abbrev pub decreases-loop-place : goal.decreases-loop-place
decreases-loop-place g l = length l.marks.roots - l.place
