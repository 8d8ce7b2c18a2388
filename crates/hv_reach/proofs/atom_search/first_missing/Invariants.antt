use Rattle.std.proofs.Common.{◌≡◌, ◌<◌, ◌≤◌, ℕ, true, get_or}
use Rattle.hv_task.specs.State.{has_atom}
use Rattle.hv_reach.proofs.atom_search.first_missing.Given as goal

abbrev pub invariant-loop-place : goal.invariant-loop-place
invariant-loop-place l = (i : ℕ) → l.from ≤ i → i < l.place
    → has_atom l.held (get_or l.pre i 0) ≡ true
