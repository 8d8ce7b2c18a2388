use Rattle.std.proofs.Common.{◌≡◌, ◌<◌, ℕ, length}
use Rattle.hv_task.specs.State.{has_atom}
use Rattle.hv_propagation.specs.Marks.{filled}
use Rattle.hv_propagation.specs.Trail.{marks_of}
use Rattle.hv_propagation.proofs.trail.Assignment.fill.Given as goal

abbrev pub invariant-loop-atom : goal.invariant-loop-atom
invariant-loop-atom l = record {
  size : length l.state ≡ length l.self.roots;
  done : (p : ℕ) → p < l.atom → has_atom l.state p ≡ has_atom (filled l.value (marks_of l.self)) p;
}
