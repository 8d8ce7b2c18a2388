-- Working definitions beside those of `Implied`: for private contracts and proofs.
use Rattle.std.specs.Prelude.{◌≡◌, ◌<◌, ◌⊎◌, ℕ, Bool, true, false, List, length, slice_index_or}
use Rattle.std.specs.List.{Contains}
use Rattle.hv_sets.specs.declared.literal.Literal.{Literal}
use Rattle.hv_sets.specs.Cubes.{opposite}
use Rattle.hv_indexes.specs.declared.rows.RowHead.{RowHead}
use Rattle.hv_indexes.specs.Places.{clause_at}
use Rattle.hv_indexes.specs.Rows.{code}
use Rattle.hv_indexes.specs.Signed.{StandsAs}
use Rattle.hv_indexes.specs.Implied.{literal_number, IsPair}

-- the code of what a literal implies by this clause
abbrev pub IsImpliedCode : List Literal → ℕ → Type 0
IsImpliedCode clause c =
    (literal : Literal) × (other : Literal) × IsPair clause (opposite literal) other
    × (c ≡ code (literal_number literal) (literal_number other))

-- the code is one of what a literal implies by one of the clauses
abbrev pub IsImpliedBySome : List (List Literal) → ℕ → Type 0
IsImpliedBySome clauses c =
    (place : ℕ) × (place < length clauses) × IsImpliedCode (clause_at clauses place) c

-- the code of how the second literal is implied by a clause of these two; or, turned, the first one
abbrev pub pair_code : Bool → Literal → Literal → ℕ
pair_code false first second = code (literal_number (opposite first)) (literal_number second)
pair_code true first second = code (literal_number (opposite second)) (literal_number first)

-- the code is there of a clause of these two literals
abbrev pub IsCodedIn : Bool → Literal → Literal → List ℕ → Type 0
IsCodedIn turned first second codes = Contains codes (pair_code turned first second)

-- codes of the clauses were put to others, among them those of how the literal is implied by the
-- clauses at these places, or, turned, of what its opposite implies by them
pub record PutsImplied (turned : Bool) (clauses : List (List Literal)) (Among : ℕ → Type 0)
    (own : Literal) (old new : List ℕ) : Type 0 where
  pub sound : (c : ℕ) → Contains new c → Contains old c ⊎ IsImpliedBySome clauses c
  pub keeps : (c : ℕ) → Contains old c → Contains new c
  pub whole : (place : ℕ) (first : Literal) → Among place
      → IsPair (clause_at clauses place) first own → IsCodedIn turned first own new

-- the same for the literals of this sign of the atoms of the first so many heads
pub record PutsUpto (turned : Bool) (clauses : List (List Literal)) (sign : Bool)
    (heads : List RowHead) (upto : ℕ) (old new : List ℕ) : Type 0 where
  pub sound : (c : ℕ) → Contains new c → Contains old c ⊎ IsImpliedBySome clauses c
  pub keeps : (c : ℕ) → Contains old c → Contains new c
  pub whole : (k atom place : ℕ) (first : Literal) → k < upto
      → ((d : RowHead) → (slice_index_or heads k d).key ≡ atom) → StandsAs sign clauses atom place
      → IsPair (clause_at clauses place) first (record { atom = atom; positive = sign })
      → IsCodedIn turned first (record { atom = atom; positive = sign }) new

-- codes of the clauses were put to others, among them those of how literals of this sign are
-- implied, or, turned, of what their opposites imply
pub record PutsSigned (turned : Bool) (clauses : List (List Literal)) (sign : Bool)
    (old new : List ℕ) : Type 0 where
  pub sound : (c : ℕ) → Contains new c → Contains old c ⊎ IsImpliedBySome clauses c
  pub keeps : (c : ℕ) → Contains old c → Contains new c
  pub whole : (place atom : ℕ) (first : Literal) → StandsAs sign clauses atom place
      → IsPair (clause_at clauses place) first (record { atom = atom; positive = sign })
      → IsCodedIn turned first (record { atom = atom; positive = sign }) new
