use Rattle.std.proofs.Common.{◌≡◌, ◌<◌, ℕ, true, slice_index_or}
use Rattle.hv_sets.specs.Truth.{in_clause}
use Rattle.hv_indexes.specs.Places.{clause_at}
use Rattle.hv_indexes.specs.Mates.{IsPutUnder}
use Rattle.hv_indexes.proofs.clusters.Clusters.are_true_under.Given as goal

abbrev pub invariant-loop-at : goal.invariant-loop-at
invariant-loop-at l =
    (k c : ℕ) → k < l.at → IsPutUnder l.self (slice_index_or l.held k 0) c
    → in_clause (clause_at l.clauses c) l.state ≡ true
