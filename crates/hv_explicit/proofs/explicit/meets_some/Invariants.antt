use Rattle.std.proofs.Common.{◌≡◌, ◌<◌, ℕ, List, false, length, get_or}
use Rattle.hv_task.specs.State.{state_of}
use Rattle.hv_sets.specs.Truth.{in_cube}
use Rattle.hv_explicit.proofs.explicit.meets_some.Given as goal

abbrev pub invariant-loop-place : goal.invariant-loop-place
invariant-loop-place l = record {
  size : length l.state ≡ length l.fn.state;
  none : (k : ℕ) (d : List ℕ) → k < l.place
      → in_cube l.cube (state_of (length l.fn.state) (get_or l.states k d)) ≡ false;
}
