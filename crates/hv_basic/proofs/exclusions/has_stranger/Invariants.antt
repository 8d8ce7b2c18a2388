use Rattle.std.proofs.Common.{◌≡◌, ◌<◌, ℕ, get_or, true}
use Rattle.hv_task.specs.State.{has_atom}
use Rattle.hv_basic.specs.Working.Excluded.{goes_with}
use Rattle.hv_basic.proofs.exclusions.has_stranger.Given as goal

abbrev pub invariant-loop-atom : goal.invariant-loop-atom
invariant-loop-atom l =
    (j q : ℕ) → j < l.atom-index → has_atom l.able q ≡ true
    → goes_with l.rows (get_or l.turned j 0) q ≡ true
