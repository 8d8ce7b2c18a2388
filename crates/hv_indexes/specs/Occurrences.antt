-- Where the literals of clauses stand.
use Rattle.std.specs.Prelude.{◌≡◌, ◌<◌, ◌==◌, ◌/◌, ◌%◌, ℕ, List, [], ◌∷◌, length, slice_index_or}
use Rattle.std.specs.Prelude.{◌⊎◌, Bool, true, false, min, slice_index, slice_range}
use Rattle.hv_sets.specs.declared.literal.Literal.{Literal}
use Rattle.hv_indexes.specs.declared.occurrences.ListedOccurrences.{ListedOccurrences}
use Rattle.hv_indexes.specs.declared.occurrences.Occurrences.{Occurrences}
use Rattle.hv_indexes.specs.declared.occurrences.Occurrences.TheVariants as O
use Rattle.hv_indexes.specs.declared.occurrences.SignedOccurrences.{SignedOccurrences}
use Rattle.hv_indexes.specs.declared.occurrences.Standing.{Standing}
use Rattle.hv_indexes.specs.declared.rows.RowHead.{RowHead}
use Rattle.hv_indexes.specs.Places.{clause_at}
use Rattle.hv_indexes.specs.Implied.{IsPair}
use Rattle.hv_indexes.specs.Rows.{IsRow, AreCoded, AreHeads, key_of, place_of_code}
use Rattle.hv_indexes.specs.Signed.{StandsAs}

-- an entry denotes a literal: twice the atom, and one more if it is positive
abbrev pub literal_of : ℕ → Literal
literal_of entry = record { atom = entry / 2; positive = entry % 2 == 1 }

-- the entry that denotes no literal
abbrev pub no_literal : ℕ
no_literal = 4294967295

-- The entry denotes the other literal of a clause, or for none. In a clause of two literals it
-- denotes the one beside this one.
pub record IsPartner (clause : List Literal) (own : Literal) (entry : ℕ) : Type 0 where
  pub pair : (entry ≡ no_literal → ⊥) → IsPair clause own (literal_of entry)
  pub two : (other : Literal) → (clause ≡ own ∷ other ∷ []) ⊎ (clause ≡ other ∷ own ∷ [])
      → literal_of entry ≡ other

-- the entry at a place; past the end none denotes a literal
abbrev pub entry_or_none : List ℕ → ℕ → ℕ
entry_or_none entries k = slice_index_or entries k no_literal

-- the entries are those for the literals beside the ones with these codes
abbrev pub ArePartners : Bool → List (List Literal) → List ℕ → List ℕ → Type 0
ArePartners sign clauses codes entries =
    (k : ℕ) → k < length codes
    → IsPartner (clause_at clauses (place_of_code (slice_index codes k)))
    (record { atom = key_of (slice_index codes k); positive = sign }) (entry_or_none entries k)

-- the lists of the literals of one sign, wherever they lie: where the places of each atom begin, by
-- rising atoms, the places, and what is beside them
pub record SignedRows : Type 0 where
  pub heads : List RowHead
  pub places : List ℕ
  pub partners : List ℕ

-- the lists that are lent
abbrev pub lent_rows : SignedOccurrences → SignedRows
lent_rows listed = record {
  heads = listed.heads.now;
  places = listed.places.now;
  partners = listed.partners.now;
}

-- of the lists of both signs those of this one: what is beside the positive literals comes after
-- the places of the negative ones
abbrev pub listed_rows : ListedOccurrences → Bool → SignedRows
listed_rows listed true = record {
  heads = listed.positive.heads.items;
  places = listed.positive.places.items;
  partners = slice_range listed.partners.items
      (min (length listed.negative.places.items) (length listed.partners.items))
      (length listed.partners.items);
}
listed_rows listed false = record {
  heads = listed.negative.heads.items;
  places = listed.negative.places.items;
  partners = slice_range listed.partners.items 0
      (min (length listed.negative.places.items) (length listed.partners.items));
}

-- the lists where no literal of the sign stands
abbrev pub no_rows : SignedRows
no_rows = record { heads = []; places = []; partners = [] }

-- the lists of a literal with this head that stands in the first clause, with none beside it
abbrev pub lone_rows : List RowHead → SignedRows
lone_rows heads = record { heads = heads; places = 0 ∷ []; partners = [] }

-- by rising atoms the places of the clauses with a literal of this sign, and what is beside
pub record AreOccurrences (sign : Bool) (clauses : List (List Literal))
    (listed : SignedRows) : Type 0 where
  pub codes : List ℕ
  pub heads : AreHeads codes listed.heads
  pub coded : AreCoded (StandsAs sign clauses) codes listed.places
  pub partners : ArePartners sign clauses codes listed.partners

-- the lists for the literals of this sign
abbrev pub signed : Occurrences → Bool → SignedRows
signed (O.Listed listed) sign = listed_rows listed.value sign
signed (O.Negative heads) true = no_rows
signed (O.Negative heads) false = lone_rows heads
signed (O.Positive heads) true = lone_rows heads
signed (O.Positive heads) false = no_rows
signed O.Nowhere sign = no_rows

-- they tell where the literals of these clauses stand
abbrev pub IsIndexOf : List (List Literal) → Occurrences → Type 0
IsIndexOf clauses occurs = (sign : Bool) → AreOccurrences sign clauses (signed occurs sign)

-- the places, rising, of all clauses that have the literal, and what is beside it there
pub record AreStanding (clauses : List (List Literal)) (standing : Standing) : Type 0 where
  pub row : IsRow (StandsAs standing.literal.positive clauses) standing.literal.atom
      standing.places.now
  pub partners : (k : ℕ) → k < length standing.places.now
      → IsPartner (clause_at clauses (slice_index standing.places.now k)) standing.literal
      (entry_or_none standing.entries.now k)
