-- The entries for the two literals of each clause.
use Rattle.std.specs.Prelude.{◌≡◌, ◌<◌, ◌⊎◌, ℕ, List, [], ◌∷◌, length, slice_index_or}
use Rattle.hv_sets.specs.declared.literal.Literal.{Literal}
use Rattle.hv_indexes.specs.declared.partners.EntryPair.{EntryPair}
use Rattle.hv_indexes.specs.Occurrences.{literal_of, no_literal}
use Rattle.hv_indexes.specs.Places.{clause_at}

-- the entries denote the two literals of the clause; or both denote none, and it doesn't have two
abbrev pub IsEntryPair : List Literal → EntryPair → Type 0
IsEntryPair clause pair =
    (clause ≡ literal_of pair.first ∷ literal_of pair.second ∷ [])
    ⊎ ((pair.first ≡ no_literal) × (pair.second ≡ no_literal) × (length clause ≡ 2 → ⊥))

-- they are those of the clauses, as far as there are any
abbrev pub AreEntryPairs : List (List Literal) → List EntryPair → Type 0
AreEntryPairs clauses pairs =
    (k : ℕ) (d : EntryPair) → k < length pairs
    → IsEntryPair (clause_at clauses k) (slice_index_or pairs k d)
