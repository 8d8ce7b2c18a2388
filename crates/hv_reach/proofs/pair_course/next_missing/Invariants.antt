use Rattle.std.proofs.Common.{◌≡◌, ◌<◌, ◌≤◌, ℕ, true, get_or}
use Rattle.hv_task.specs.State.{has_atom}
use Rattle.hv_reach.proofs.pair_course.next_missing.Given as goal

abbrev pub invariant-loop-place : goal.invariant-loop-place
invariant-loop-place l = (j : ℕ) → l.from ≤ j → j < l.place
    → has_atom l.row (get_or l.list j 0) ≡ true
