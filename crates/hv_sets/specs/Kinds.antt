-- Kinds of clauses whose satisfying states can be found without search.
use Rattle.std.specs.Prelude.{◌≡◌, ◌<◌, ◌⊎◌, ℕ, Bool, true, false, List, length, slice_index_or}
use Rattle.std.specs.Prelude.{[]}
use Rattle.std.specs.List.{Contains}
use Rattle.hv_sets.specs.declared.literal.Literal.{Literal}

-- the literals of this sign in the clause are of one atom at most
abbrev pub IsHeaded : Bool → List Literal → Type 0
IsHeaded sign clause =
    (l k : Literal) → Contains clause l → Contains clause k → l.positive ≡ sign → k.positive ≡ sign
    → l.atom ≡ k.atom

-- a Horn clause: its positive literals are of one atom at most
abbrev pub IsHornClause : List Literal → Type 0
IsHornClause clause = IsHeaded true clause

-- a dual Horn clause: its negative literals are of one atom at most
abbrev pub IsDualHornClause : List Literal → Type 0
IsDualHornClause clause = IsHeaded false clause

-- a clause of at most two literals: of any three of them two are the same
abbrev pub IsTwoClause : List Literal → Type 0
IsTwoClause clause =
    (l k m : Literal) → Contains clause l → Contains clause k → Contains clause m → (l ≡ k)
    ⊎ ((k ≡ m) ⊎ (l ≡ m))

-- the clause at this place is the first that isn't of the kind
pub record IsFirstOther (OfKind : List Literal → Type 0) (clauses : List (List Literal)) (place : ℕ)
    : Type 0 where
  pub among : place < length clauses
  pub other : OfKind (slice_index_or clauses place []) → ⊥
  pub before : (k : ℕ) → k < place → OfKind (slice_index_or clauses k [])
