-- What is tried of a formula for a listed state.
use Rattle.std.specs.Prelude.{◌≡◌, ◌<◌, ◌⊎◌, ◌++◌, ◌∷◌, ℕ, Bool, true, false, not, List, [], Option}
use Rattle.std.specs.Prelude.{None, Some, length, slice_index_or}
use Rattle.std.specs.List.{Contains}
use Rattle.hv_task.specs.State.{has_atom}
use Rattle.hv_sets.specs.Cubes.{SpeakBelow}
use Rattle.hv_sets.specs.Truth.{in_clause}
use Rattle.hv_sets.specs.declared.literal.Literal.{Literal}
use Rattle.hv_indexes.specs.declared.clusters.Cluster.{Cluster}
use Rattle.hv_indexes.specs.declared.clusters.ClusterList.{ClusterList}
use Rattle.hv_indexes.specs.declared.clusters.Clusters.{Clusters}
use Rattle.hv_indexes.specs.declared.put_clauses.PutClauses.{PutClauses}
use Rattle.hv_indexes.specs.declared.rows.RowHead.{RowHead}
use Rattle.hv_indexes.specs.declared.rows.RowRange.{RowRange}
use Rattle.hv_indexes.specs.declared.screens.Screen.{Screen}
use Rattle.hv_indexes.specs.Places.{clause_at}
use Rattle.hv_indexes.specs.Mates.{IsCluster, IsExact, IsPutUnder, IsScreened, cluster_places}
use Rattle.hv_indexes.specs.Rows.{AreHeads, IsPartOf, code, place_of_code}

-- the clause of this number is put under an atom whose literal of this sign is false in the state
abbrev pub IsDue : Bool → Clusters → List Bool → ℕ → Type 0
IsDue sign them state c =
    (p : ℕ) × (p < length state) × (has_atom state p ≡ not sign) × IsPutUnder them p c

-- the code of the clause of this number and of the atom of a literal of this sign that it has is
-- among these
abbrev pub IsPutBy : Bool → List (List Literal) → List ℕ → ℕ → Type 0
IsPutBy sign clauses codes c =
    (p : ℕ) × Contains (clause_at clauses c) (record { atom = p; positive = sign })
    × Contains codes (code p c)

-- each of the first so many clauses is put under one of its literals, or among the others
pub record ArePut (clauses : List (List Literal)) (upto : ℕ) (put : PutClauses) : Type 0 where
  pub negative : (x : ℕ) → Contains put.negative.items x → place_of_code x < length clauses
  pub positive : (x : ℕ) → Contains put.positive.items x → place_of_code x < length clauses
  pub others : (k : ℕ) → k < length put.others.items
      → slice_index_or put.others.items k 0 < length clauses
  pub whole : (c : ℕ) → c < upto → Contains put.others.items c
      ⊎ (IsPutBy false clauses put.negative.items c ⊎ IsPutBy true clauses put.positive.items c)

-- the first so many heads have a cluster of what is put under their atoms, and exact screens are
-- of these clauses
pub record AreClustersUpto (clauses : List (List Literal)) (heads : List RowHead)
    (places : List ℕ) (upto : ℕ) (list : ClusterList) : Type 0 where
  pub size : length list.clusters.items ≡ upto
  pub each : (j : ℕ) (e : Cluster) → j < upto
      → IsCluster clauses places list.screens.items (slice_index_or list.clusters.items j e)
  pub parts : (codes : List ℕ) → AreHeads codes heads → length codes ≡ length places
      → (j : ℕ) (d : RowHead) (e : Cluster) → j < upto
      → IsPartOf (slice_index_or heads j d).key codes places
      (cluster_places places (slice_index_or list.clusters.items j e))
  pub exact : (k : ℕ) (d : Screen) → k < length list.screens.items
      → IsExact clauses (slice_index_or list.screens.items k d)

-- the state holds all atoms
abbrev pub HoldsAll : List Bool → Type 0
HoldsAll state = (q : ℕ) → q < length state → has_atom state q ≡ true

-- all clauses with a literal of the screen are true in the state; or, of clauses for which it is
-- exact, one is false
abbrev pub IsDecidedAs : Bool → Screen → List Bool → Type 0
IsDecidedAs true screen state =
    (clause : List Literal) → SpeakBelow (length state) clause → IsScreened screen clause
    → in_clause clause state ≡ true
IsDecidedAs false screen state =
    (clauses : List (List Literal)) → IsExact clauses screen
    → (c : ℕ) × (c < length clauses) × (in_clause (clause_at clauses c) state ≡ false)

-- a cluster was put last, and its screen behind the others
abbrev pub PutsCluster : ClusterList → RowRange → Option Screen → ClusterList → Type 0
PutsCluster old range None new =
    (new.clusters.items ≡ old.clusters.items ++ record { range = range; screen = None } ∷ [])
    × (new.screens.items ≡ old.screens.items)
PutsCluster old range (Some screen) new =
    (new.clusters.items ≡ old.clusters.items
    ++ record { range = range; screen = Some (length old.screens.items) } ∷ [])
    × (new.screens.items ≡ old.screens.items ++ screen ∷ [])
