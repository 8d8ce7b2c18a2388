use Rattle.std.proofs.Common.{◌≡◌, ◌<◌, ℕ, true, get_or}
use Rattle.std.specs.List.{All}
use Rattle.hv_reach.specs.Reached.{has_pair}
use Rattle.hv_reach.proofs.mask.has_pairs.Given as goal

abbrev pub invariant-loop-atom : goal.invariant-loop-atom
invariant-loop-atom l = (k : ℕ) → k < l.atom-index
    → All (λ q. has_pair l.rows.items (get_or l.list k 0) q ≡ true) l.list
