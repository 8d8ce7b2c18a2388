-- What is tried of a formula for a listed state.
use Rattle.std.specs.Prelude.{◌≡◌, ◌<◌, ◌⊎◌, ℕ, Bool, true, false, List, length, slice_index_or}
use Rattle.std.specs.Prelude.{◌≤◌, IfSome, slice_range}
use Rattle.std.specs.List.{All, Contains}
use Rattle.hv_task.specs.State.{has_atom}
use Rattle.hv_sets.specs.declared.literal.Literal.{Literal}
use Rattle.hv_sets.specs.Truth.{in_clause}
use Rattle.hv_indexes.specs.declared.clusters.Cluster.{Cluster}
use Rattle.hv_indexes.specs.declared.clusters.Clusters.{Clusters}
use Rattle.hv_indexes.specs.declared.rows.RowHead.{RowHead}
use Rattle.hv_indexes.specs.declared.screens.Screen.{Screen}
use Rattle.hv_indexes.specs.Implied.{IsEither}
use Rattle.hv_indexes.specs.Places.{clause_at}
use Rattle.std.specs.List.Sorted.{IsNonDecreasingBy}
use Rattle.hv_indexes.specs.declared.mates.Mates.{Mates}

-- all of these clauses are true in the state; or some clause is false
abbrev pub AreTried : Bool → List (List Literal) → (ℕ → Type 0) → List Bool → Type 0
AreTried true clauses Tried state =
    (c : ℕ) → Tried c → in_clause (clause_at clauses c) state ≡ true
AreTried false clauses Tried state =
    (c : ℕ) × (c < length clauses) × (in_clause (clause_at clauses c) state ≡ false)

-- the clause has a literal of the screen
abbrev pub IsScreened : Screen → List Literal → Type 0
IsScreened screen clause =
    (q : ℕ) × Contains clause (record { atom = q; positive = screen.sign })
    × (has_atom screen.flags q ≡ screen.sign)

-- where the screen is exact, each of its literals is in some clause that has no literal but this
-- and the own one
abbrev pub IsExact : List (List Literal) → Screen → Type 0
IsExact clauses screen =
    screen.exact ≡ true → (q : ℕ) → q < length screen.flags → has_atom screen.flags q ≡ screen.sign
    → (c : ℕ) × (c < length clauses)
    × All (IsEither screen.own (record { atom = q; positive = screen.sign })) (clause_at clauses c)

-- the places of the clauses of a cluster
abbrev pub cluster_places : List ℕ → Cluster → List ℕ
cluster_places places cluster = slice_range places cluster.range.from cluster.range.upto

-- the cluster is a part of these places, and its screen, if it has one, has a literal of each of
-- the clauses there
pub record IsCluster (clauses : List (List Literal)) (places : List ℕ) (screens : List Screen)
    (cluster : Cluster) : Type 0 where
  pub starts : cluster.range.from ≤ cluster.range.upto
  pub ends : cluster.range.upto ≤ length places
  pub screened : IfSome cluster.screen (λ k. (k < length screens)
      × ((d : Screen) (c : ℕ) → Contains (cluster_places places cluster) c
      → IsScreened (slice_index_or screens k d) (clause_at clauses c)))

-- for each head, by rising atoms, there is a cluster of some of these clauses, and exact screens
-- are of these clauses
pub record AreClusters (clauses : List (List Literal)) (them : Clusters) : Type 0 where
  pub rises : IsNonDecreasingBy (λ h. h.key) them.heads.items
  pub size : length them.list.clusters.items ≡ length them.heads.items
  pub inside : (k : ℕ) → k < length them.places.items
      → slice_index_or them.places.items k 0 < length clauses
  pub each : (j : ℕ) (e : Cluster) → j < length them.heads.items
      → IsCluster clauses them.places.items them.list.screens.items
      (slice_index_or them.list.clusters.items j e)
  pub exact : (k : ℕ) (d : Screen) → k < length them.list.screens.items
      → IsExact clauses (slice_index_or them.list.screens.items k d)

-- the clause of this number is put under the atom: there is a cluster of the atom, and the clause
-- is in it
pub record IsPutUnder (them : Clusters) (atom c : ℕ) : Type 0 where
  pub some : (j : ℕ) × (j < length them.heads.items)
      × ((d : RowHead) → (slice_index_or them.heads.items j d).key ≡ atom)
  pub all : (j : ℕ) (d : RowHead) (e : Cluster) → j < length them.heads.items
      → (slice_index_or them.heads.items j d).key ≡ atom
      → Contains (cluster_places them.places.items (slice_index_or them.list.clusters.items j e)) c

-- the clause of this number is put under a literal of this sign that it has
abbrev pub IsPutUnderOwn : Bool → List (List Literal) → Clusters → ℕ → Type 0
IsPutUnderOwn sign clauses them c =
    (p : ℕ) × Contains (clause_at clauses c) (record { atom = p; positive = sign })
    × IsPutUnder them p c

-- each clause is put under one of its literals, or among the others
pub record AreMates (clauses : List (List Literal)) (mates : Mates) : Type 0 where
  pub negative : AreClusters clauses mates.negative
  pub positive : AreClusters clauses mates.positive
  pub others : (k : ℕ) → k < length mates.others.items
      → slice_index_or mates.others.items k 0 < length clauses
  pub whole : (c : ℕ) → c < length clauses → Contains mates.others.items c
      ⊎ (IsPutUnderOwn false clauses mates.negative c ⊎ IsPutUnderOwn true clauses mates.positive c)
