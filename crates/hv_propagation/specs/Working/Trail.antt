-- The rows in which a trail is kept.
use Rattle.std.specs.Prelude.{◌≡◌, ◌<◌, ◌≤◌, ◌/◌, ℕ, List, None, length, map, take, slice_index_or}
use Rattle.hv_sets.specs.declared.literal.Literal.{Literal}
use Rattle.hv_propagation.specs.Marks.{known}
use Rattle.hv_indexes.specs.Occurrences.{literal_of}

-- the literals that the first so many entries denote
abbrev pub trail_of : List ℕ → ℕ → List Literal
trail_of queue len = map literal_of (take len queue)

-- The places and the entries confirm each other: the place of the atom of each of the first so many
-- entries is that entry's, and of none of these atoms something was known before. Nothing is said
-- of other places and entries.
pub record AreJoined (roots : List ℕ) (places queue : List ℕ) (len : ℕ) : Type 0 where
  pub places_room : length roots ≤ length places
  pub queue_room : length roots ≤ length queue
  pub within : len ≤ length queue
  pub below : (k : ℕ) → k < len → slice_index_or queue k 0 / 2 < length roots
  pub back : (k : ℕ) → k < len → slice_index_or places (slice_index_or queue k 0 / 2) 0 ≡ k
  pub fresh : (k : ℕ) → k < len → known roots (slice_index_or queue k 0 / 2) ≡ None
