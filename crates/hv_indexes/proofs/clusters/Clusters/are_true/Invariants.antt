use Rattle.std.proofs.Common.{◌≡◌, ◌<◌, ℕ, true, not, slice_index_or}
use Rattle.std.specs.List.{Contains}
use Rattle.hv_task.specs.State.{has_atom}
use Rattle.hv_sets.specs.Truth.{in_clause}
use Rattle.hv_indexes.specs.declared.clusters.Cluster.{Cluster}
use Rattle.hv_indexes.specs.declared.rows.RowHead.{RowHead}
use Rattle.hv_indexes.specs.Places.{clause_at}
use Rattle.hv_indexes.specs.Mates.{cluster_places}
use Rattle.hv_indexes.proofs.clusters.Clusters.are_true.Given as goal

abbrev pub invariant-loop-at : goal.invariant-loop-at
invariant-loop-at l =
    (j c : ℕ) (d : RowHead) (e : Cluster) → j < l.at
    → has_atom l.state (slice_index_or l.self.heads.items j d).key ≡ not l.sign
    → Contains (cluster_places l.self.places.items
    (slice_index_or l.self.list.clusters.items j e)) c
    → in_clause (clause_at l.clauses c) l.state ≡ true
