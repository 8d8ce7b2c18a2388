-- Working definitions beside those of `ListedStates`: for private contracts and proofs.
use Rattle.std.specs.Prelude.{◌≡◌, ◌<◌, ℕ, Bool, List, [], length, slice_index, slice_index_or}
use Rattle.hv_explicit.specs.Working.Codes.{IsListCode, IsSame}
use Rattle.hv_explicit.specs.Working.Places.{code_at}

-- the state at the place that is at this entry
abbrev pub first_at : List (List ℕ) → List ℕ → ℕ → List ℕ
first_at states firsts e = slice_index_or states (slice_index firsts e) []

-- the numbers are places of this list
abbrev pub ArePlacesOf : List (List ℕ) → List ℕ → Type 0
ArePlacesOf states places = (e : ℕ) → e < length places → slice_index places e < length states

-- the entries are places of the first so many states of a list, and each of these states is at
-- one of them
pub record AreFirsts (states : List (List ℕ)) (firsts : List ℕ) (count : ℕ) : Type 0 where
  pub within : (e : ℕ) → e < length firsts → slice_index firsts e < count
  pub each : (k : ℕ) → k < count
      → (e : ℕ) × (e < length firsts) × (first_at states firsts e ≡ slice_index_or states k [])

-- the index has the code of the state at each entry
pub record IsIndex (key : ℕ) (codes firsts : List ℕ) (states : List (List ℕ)) : Type 0 where
  pub many : length codes ≡ length firsts
  pub code : (e : ℕ) → e < length firsts
      → IsListCode key (first_at states firsts e) (code_at codes e)

-- the state at some entry has just these atoms
abbrev pub IsEnteredState : (ℕ → Bool) → List (List ℕ) → List ℕ → Type 0
IsEnteredState held states firsts =
    (e : ℕ) × (e < length firsts) × IsSame held (first_at states firsts e)
