use Rattle.std.proofs.Common.{◌≡◌, ◌<◌, ◌≤◌, ℕ, false, get_or}
use Rattle.hv_task.specs.State.{names_atom}
use Rattle.hv_task.proofs.after.next_kept.Given as goal

abbrev pub invariant-loop-place : goal.invariant-loop-place
invariant-loop-place l = (k : ℕ) → k < l.place → l.from ≤ get_or l.list k 0
    → names_atom l.others (get_or l.list k 0) ≡ false → ⊥
