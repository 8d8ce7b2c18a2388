use Rattle.std.proofs.Common.{◌<◌, ℕ, get_or}
use Rattle.std.specs.List.{Contains}
use Rattle.hv_explicit.proofs.results.has_no_other.Given as goal

abbrev pub invariant-loop-atom : goal.invariant-loop-atom
invariant-loop-atom l = (k : ℕ) → k < l.atom-index → Contains l.list (get_or l.atoms k 0)
    → Contains l.others (get_or l.atoms k 0)
