-- The search through live tuples.
use Rattle.std.specs.Prelude.{◌≡◌, ◌<◌, ◌≤◌, ◌++◌, ◌⊎◌, ◌&&◌, ℕ, Bool, true, false, not, List, []}
use Rattle.std.specs.Prelude.{◌∷◌, Option, filter}
use Rattle.std.specs.Prelude.{None}
use Rattle.std.specs.Prelude.{Some, length, map, slice_index_or, ⊤}
use Rattle.std.specs.List.{All, Contains}
use Rattle.std.specs.List.Sorted.{IsStrictlyIncreasing}
use Rattle.indexmap.specs.IndexSet.{IndexSet}
use Rattle.smallvec.specs.SmallVec.{SmallVec}
use Rattle.hv_task.specs.State.{has_atom, names_atom}
use Rattle.hv_task.specs.Strips.{Strips}
use Rattle.hv_sets.specs.declared.literal.Literal.{Literal}
use Rattle.hv_sets.specs.declared.operand.Which.{Which}
use Rattle.hv_sets.specs.declared.operand.Which.TheVariants as W
use Rattle.hv_sets.specs.declared.query.Query.{Query}
use Rattle.hv_bdd.specs.declared.asked.Asked.{Asked}
use Rattle.hv_bdd.specs.declared.reach.Reached.{Reached}
use Rattle.hv_bdd.specs.declared.tuple_search.Link.{Link}
use Rattle.hv_bdd.specs.declared.tuple_search.PlaceMarks.{PlaceMarks}
use Rattle.hv_bdd.specs.Nodes.{NodeList, node_count}
use Rattle.hv_bdd.specs.Order.{atom_at}
use Rattle.hv_bdd.specs.Reduced.{IsReduced}
use Rattle.hv_bdd.specs.Live.{TupleSetting, bit_mark_of, moves, no_marks, operands_of, roots}
use Rattle.hv_bdd.specs.Live.{tuple_setting_of}
use Rattle.hv_bdd.specs.Working.Graphs.{limit}
use Rattle.hv_bdd.specs.Working.Sets.{mark_literals}
use Rattle.hv_bdd.specs.Tuples.{IsReached, Moves, if_live, least, next}

-- what tuples move through, and the operands that are asked
pub record TupleSearch : Type 0 where
  pub setting : TupleSetting
  pub asked : List Asked

-- what is at hand suffices for this operand
abbrev pub IsAskable : TupleSetting → Which → Type 0
IsAskable s W.Empty = ⊤
IsAskable s W.Start = (length s.start ≡ s.list.atoms) × (s.list.atoms ≤ 65535)
IsAskable s W.Goal = (length s.goal ≡ s.list.atoms) × (s.list.atoms ≤ 65535)
IsAskable s (W.Set number) = number < node_count s.list

-- the flag at each place is that of its atom in the state
pub record ArePlaced (list : NodeList) (state placed : List Bool) : Type 0 where
  pub size : length placed ≡ list.atoms
  pub has : (v : ℕ) → has_atom placed v ≡ has_atom state (atom_at list v)

-- the list has the places of the atoms of the state, and rises
pub record ListsPlaces (list : NodeList) (state : List Bool) (places : List ℕ) : Type 0 where
  pub rises : IsStrictlyIncreasing places
  pub names : (v : ℕ) → names_atom places v ≡ has_atom state (atom_at list v)

-- the search can be made
pub record IsTupleSearch (s : TupleSearch) : Type 0 where
  pub reduced : IsReduced s.setting.list
  pub needed : length s.setting.needed ≡ s.setting.list.atoms
  pub changed : length s.setting.changed ≡ s.setting.list.atoms
  pub asked : All (λ o. IsAskable s.setting o.which) s.asked

-- the tuple has a node of each operand
pub record IsTuple (s : TupleSearch) (nodes : List ℕ) : Type 0 where
  pub size : length nodes ≡ length s.asked
  pub each : (k : ℕ) (o : Asked) → k < length nodes
      → slice_index_or nodes k 0 < limit s.setting (slice_index_or s.asked k o).which

-- the marks are those of the atom at their place, if there is one
pub record AreMarksOf (s : TupleSetting) (marks : PlaceMarks) : Type 0 where
  pub needed : marks.place < s.list.atoms
      → marks.needed ≡ bit_mark_of s.needed (atom_at s.list marks.place)
  pub changed : marks.place < s.list.atoms
      → marks.changed ≡ bit_mark_of s.changed (atom_at s.list marks.place)

-- the tuples of a set, in order
abbrev pub tuples_of : {H : Type 0} → IndexSet (SmallVec ℕ) H → List (List ℕ)
tuples_of set = map (λ v. v.items) set.keys

-- the tuple is among them, and was put last with its link where it wasn't
abbrev pub IsPut : List (List ℕ) → List Link → List ℕ → Link → List (List ℕ) → List Link → Type 0
IsPut tuples links tuple link tuples' links' =
    (Contains tuples tuple × (tuples' ≡ tuples) × (links' ≡ links))
    ⊎ ((Contains tuples tuple → ⊥) × (tuples' ≡ tuples ++ tuple ∷ [])
    × (links' ≡ links ++ link ∷ []))

-- the same of a tuple that may be none: then nothing is put
abbrev pub IsPutSome : List (List ℕ) → List Link → Option (List ℕ) → Link → List (List ℕ)
    → List Link → Type 0
IsPutSome tuples links None link tuples' links' = (tuples' ≡ tuples) × (links' ≡ links)
IsPutSome tuples links (Some tuple) link tuples' links' =
    IsPut tuples links tuple link tuples' links'

-- the tuple at a place
abbrev pub tuple_at : List (List ℕ) → ℕ → List ℕ
tuple_at tuples k = slice_index_or tuples k []

-- the link to the tuple at a place
abbrev pub link_at : List Link → ℕ → Link
link_at links k = slice_index_or links k record { parent = 0; bit = false }

-- what was found after the moves of so many tuples
pub record IsExplored {O : Type 0} (m : Moves O) (os : List O) (root : List ℕ) (done : ℕ)
    (tuples : List (List ℕ)) (links : List Link) : Type 0 where
  pub size : length links ≡ length tuples
  pub upto : done ≤ length tuples
  -- each tuple is reached, and none occurs twice
  pub reached : All (IsReached m os root) tuples
  pub apart : (i j : ℕ) → i < j → j < length tuples → tuple_at tuples i ≡ tuple_at tuples j → ⊥
  -- the tuple of roots is among them if it is live, and occurs first
  pub roots : (u : List ℕ) → if_live m os root ≡ Some u → Contains tuples u
  pub first : 0 < length tuples → if_live m os root ≡ Some (tuple_at tuples 0)
  -- the moves of the first so many lead to tuples among them
  pub closed : (k : ℕ) (bit : Bool) (u : List ℕ) → k < done
      → next m os (tuple_at tuples k) bit ≡ Some u → Contains tuples u
  -- each other tuple is led to from an earlier one by its bit
  pub parent : (k : ℕ) → 0 < k → k < length tuples → (link_at links k).parent < k
  pub linked : (k : ℕ) → 0 < k → k < length tuples
      → next m os (tuple_at tuples (link_at links k).parent) (link_at links k).bit
      ≡ Some (tuple_at tuples k)

-- what was found by a search, which can be made, after the moves of so many tuples
pub record Explored (s : TupleSearch) (done : ℕ) (reached : Reached) : Type 0 where
  pub search : IsTupleSearch s
  pub known : IsExplored (moves s.setting) s.asked (roots s.setting s.asked) done
      (tuples_of reached.tuples) reached.links.items

-- all tuples that are reached were found, or more of them than the budget
abbrev pub IsDone : TupleSearch → ℕ → Reached → Type 0
IsDone s budget reached =
    (done : ℕ) × Explored s done reached
    × ((budget < length reached.tuples.keys) ⊎ (length reached.tuples.keys ≤ done))

-- a tuple of ends
abbrev pub IsEndTuple : TupleSearch → List ℕ → Type 0
IsEndTuple s nodes = least (moves s.setting) s.asked nodes ≡ s.setting.list.atoms

-- the set is the empty one
abbrev pub is_empty : Which → Bool
is_empty W.Empty = true
is_empty W.Start = false
is_empty W.Goal = false
is_empty (W.Set number) = false

-- the operand says nothing: each state is outside the empty set
abbrev pub is_idle : Asked → Bool
is_idle o = is_empty o.which && not o.positive

-- the operands that say something
abbrev pub active : List Asked → List Asked
active os = filter (λ o. not (is_idle o)) os

-- what a query gives to the search
abbrev pub search_for : NodeList → Strips → Query → TupleSearch
search_for list task query = record {
  setting = tuple_setting_of list task query;
  asked = active (operands_of query);
}

-- the search is for a state of the cube that is in the node or outside it
pub record SearchesCube (node : ℕ) (inside : Bool) (cube : List Literal) (s : TupleSearch) : Type 0
  where
    pub needed : s.setting.needed ≡ mark_literals cube (no_marks s.setting.list.atoms)
    pub asked : s.asked ≡ record { which = W.Set node; after = false; positive = inside } ∷ []
