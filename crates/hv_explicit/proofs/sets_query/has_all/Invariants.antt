use Rattle.std.proofs.Common.{◌≡◌, ◌<◌, ℕ, true, get_or}
use Rattle.hv_explicit.proofs.sets_query.has_all.Given as goal

abbrev pub invariant-loop-atom : goal.invariant-loop-atom
invariant-loop-atom g l = (k : ℕ) (d : ℕ) → k < l.atom-index
    → g.A.Sought.has l.held (get_or l.atoms k d) ≡ true
