-- How the search for reached pairs goes: a table with a row of flags for each atom, and a flag for
-- each row that grew.
use Rattle.std.specs.Prelude.{◌≡◌, ◌<◌, ◌≤◌, ◌+◌, ◌⊎◌, ℕ, Bool, true, false, List, [], ◌∷◌, length}
use Rattle.std.specs.Prelude.{Some, slice_get, slice_index_or, slice_set, Option, MatchOption}
use Rattle.std.specs.List.{All, Contains}
use Rattle.hv_task.specs.declared.action.Action.{Action}
use Rattle.hv_task.specs.State.{has_atom}
use Rattle.hv_reach.specs.declared.pair_search.PairSearch.{PairSearch}
use Rattle.hv_reach.specs.Working.Index.{IsInRest}
use Rattle.hv_reach.specs.Reached.{HasPairsOf, LeavesAlone, has_pair}
use Rattle.hv_reach.specs.Working.Waiting.{missing}

-- the atom is in a pair with itself and with each of these
abbrev pub IsJoined : (ℕ → ℕ → Bool) → List ℕ → ℕ → Type 0
IsJoined set ps q = (set q q ≡ true) × All (λ p. set p q ≡ true) ps

-- the order of the two of a pair doesn't matter
abbrev pub IsEven : (ℕ → ℕ → Bool) → Type 0
IsEven set = (p q : ℕ) → set p q ≡ true → set q p ≡ true

-- the set has the pairs that the action gives
pub record KeepsPairs (set : ℕ → ℕ → Bool) (a : Action) : Type 0 where
  pub both : HasPairsOf set a.pre → HasPairsOf set a.add
  pub other : (q : ℕ) → LeavesAlone a q → HasPairsOf set a.pre → IsJoined set a.pre q
      → All (λ p. set p q ≡ true) a.add

-- the set has the pairs that each action gives
abbrev pub KeepAllPairs : List Action → (ℕ → ℕ → Bool) → Type 0
KeepAllPairs actions set =
    (k : ℕ) (a : Action) → slice_get actions k ≡ Some a → KeepsPairs set a

-- each pair of the table is in the set
abbrev pub PairsWithin : List (List Bool) → (ℕ → ℕ → Bool) → Type 0
PairsWithin rows set = (p q : ℕ) → has_pair rows p q ≡ true → set p q ≡ true

-- every even set in which this holds, and that has the old table's pairs, has the new one's
abbrev pub PairsGrowWithin
    : ((ℕ → ℕ → Bool) → Type 0) → List (List Bool) → List (List Bool) → Type 0
PairsGrowWithin Given old new =
    (set : ℕ → ℕ → Bool) → IsEven set → Given set → PairsWithin old set → PairsWithin new set

-- how many cells of the rows are not set
abbrev pub missing_cells : List (List Bool) → ℕ
missing_cells [] = 0
missing_cells (row ∷ rows) = missing row + missing_cells rows

-- the table with one cell set
abbrev pub set_at : List (List Bool) → ℕ → ℕ → List (List Bool)
set_at rows p q = slice_set rows p (slice_set (slice_index_or rows p []) q true)

-- the table with a pair set both ways
abbrev pub set_both : List (List Bool) → ℕ → ℕ → List (List Bool)
set_both rows p q = set_at (set_at rows p q) q p

-- so many rows, each over so many atoms
pub record IsSquare (n : ℕ) (rows : List (List Bool)) : Type 0 where
  pub size : length rows ≡ n
  pub each : All (λ row. length row ≡ n) rows

-- a table over so many atoms: it is even, and what is paired is paired with itself
pub record IsPairTable (n : ℕ) (rows : List (List Bool)) : Type 0 where
  pub size : length rows ≡ n
  pub each : All (λ row. length row ≡ n) rows
  pub even : (p q : ℕ) → has_pair rows p q ≡ true → has_pair rows q p ≡ true
  pub whole : (p q : ℕ) → has_pair rows p q ≡ true → has_pair rows q q ≡ true

-- these flags are raised for a new pair: those of its atoms, and that past the atoms for an atom
-- with itself
abbrev pub AreRaised : ℕ → List Bool → ℕ → ℕ → Type 0
AreRaised n flags p q =
    (has_atom flags p ≡ true) × (has_atom flags q ≡ true) × (p ≡ q → has_atom flags n ≡ true)

-- pairs came to the table, and each that did raised its flags
pub record IsPairStep (n : ℕ) (old : List (List Bool)) (flags : List Bool)
    (new : List (List Bool)) (raised : List Bool) (moved : Bool) : Type 0 where
  pub table : IsPairTable n new
  pub size : length raised ≡ length flags
  pub grows : (p q : ℕ) → has_pair old p q ≡ true → has_pair new p q ≡ true
  pub raises : (p q : ℕ) → has_pair new p q ≡ true
      → (has_pair old p q ≡ true) ⊎ AreRaised n raised p q
  pub stay : (x : ℕ) → has_atom flags x ≡ true → has_atom raised x ≡ true
  pub still : moved ≡ false → (x : ℕ) → has_atom raised x ≡ true → has_atom flags x ≡ true
  pub fewer : missing_cells new ≤ missing_cells old
  pub falls : moved ≡ true → missing_cells new < missing_cells old

-- pairs came to the table that the actions give, and where none did, no flag was raised
pub record IsTurn (actions : List Action) (old new : PairSearch) (moved : Bool) : Type 0 where
  pub grows : (p q : ℕ) → has_pair old.rows.items p q ≡ true → has_pair new.rows.items p q ≡ true
  pub still : moved ≡ false → (x : ℕ) → has_atom new.flags x ≡ true → has_atom old.flags x ≡ true
  pub fewer : missing_cells new.rows.items ≤ missing_cells old.rows.items
  pub falls : moved ≡ true → missing_cells new.rows.items < missing_cells old.rows.items
  pub least : PairsGrowWithin (KeepAllPairs actions) old.rows.items new.rows.items

-- the flag that is raised where the action may have new work: that of an atom of its precondition,
-- or that past the atoms where it has none
abbrev pub IsTrigger : ℕ → Action → ℕ → Type 0
IsTrigger n a x = Contains a.pre x ⊎ ((x ≡ n) × (length a.pre ≡ 0))

-- the table keeps the action's pairs, or one of its flags is raised
abbrev pub HasItsPairs : ℕ → List (List Bool) → List Bool → Action → Type 0
HasItsPairs n rows flags a =
    KeepsPairs (has_pair rows) a ⊎ ((x : ℕ) × IsTrigger n a x × (has_atom flags x ≡ true))

-- each action is ready
abbrev pub HaveTheirPairs : ℕ → List Action → List (List Bool) → List Bool → Type 0
HaveTheirPairs n actions rows flags =
    (k : ℕ) (a : Action) → slice_get actions k ≡ Some a → HasItsPairs n rows flags a

-- each action is ready or left in the list
abbrev pub HaveTheirPairsBut
    : List ℕ → ℕ → ℕ → List Action → List (List Bool) → List Bool → Type 0
HaveTheirPairsBut numbers from n actions rows flags =
    (k : ℕ) (a : Action) → slice_get actions k ≡ Some a
    → HasItsPairs n rows flags a ⊎ IsInRest numbers from k

-- the next atom of a mask, from this number on, that a row has not: those before it that the mask
-- has, the row has too
abbrev pub IsNextNew : List Bool → List Bool → ℕ → Option ℕ → Type 0
IsNextNew mask row from next =
    MatchOption next
    ((q : ℕ) → from ≤ q → has_atom mask q ≡ true → has_atom row q ≡ true)
    (λ q. (q < length mask) × (has_atom mask q ≡ true) × (has_atom row q ≡ false)
    × ((k : ℕ) → from ≤ k → k < q → has_atom mask k ≡ true → has_atom row k ≡ true))
