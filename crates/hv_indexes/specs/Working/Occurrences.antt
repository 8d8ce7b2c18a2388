-- How the entries beside places are put, and the lists of one sign before those of both are put
-- together.
use Rattle.std.specs.Prelude.{◌≡◌, ◌<◌, ◌≤◌, ◌+◌, ℕ, List, length}
use Rattle.hv_indexes.specs.declared.occurrences.SignedLists.{SignedLists}
use Rattle.hv_indexes.specs.Occurrences.{SignedRows, entry_or_none}

-- the entry was put at a place, before which the others are as they were
pub record PutsEntry (old : List ℕ) (place entry : ℕ) (new : List ℕ) : Type 0 where
  pub here : entry_or_none new place ≡ entry
  pub before : (k : ℕ) → k < place → entry_or_none new k ≡ entry_or_none old k
  pub few : length new ≤ place + 1

-- the lists of one sign
abbrev pub kept_rows : SignedLists → SignedRows
kept_rows lists = record {
  heads = lists.heads.items;
  places = lists.places.items;
  partners = lists.partners.items;
}

-- the entries beside so many places, and then those beside others
pub record AreEntriesJoined (first : List ℕ) (upto : ℕ) (second joined : List ℕ) : Type 0 where
  pub before : (k : ℕ) → k < upto → entry_or_none joined k ≡ entry_or_none first k
  pub after : (k : ℕ) → entry_or_none joined (upto + k) ≡ entry_or_none second k
