-- Working definitions beside those of `AtomList`: for private contracts and proofs.
use Rattle.std.specs.Prelude.{◌≡◌, ◌<◌, ◌≤◌, ◌+◌, ℕ, List, length, slice_index, sum, Result}
use Rattle.std.specs.Prelude.{MatchResult}
use Rattle.hv_task.specs.AtomList.{set_of}

-- the place of an atom in a rising list, or else the place where it belongs: what is before it
-- is less, and the rest greater
abbrev pub IsPlaceOf : List ℕ → ℕ → Result ℕ ℕ → Type 0
IsPlaceOf atoms atom place =
    MatchResult place
    (λ i. (i < length atoms) × (slice_index atoms i ≡ atom))
    (λ i. (i ≤ length atoms) × ((k : ℕ) → k < i → slice_index atoms k < atom)
    × ((k : ℕ) → i ≤ k → k < length atoms → atom < slice_index atoms k))

-- the place in a list where what is at least this number begins: what is before it is less, and
-- nothing from it on
pub record IsFirstFrom (list : List ℕ) (from place : ℕ) : Type 0 where
  pub upto : place ≤ length list
  pub before : (k : ℕ) → k < place → slice_index list k < from
  pub after : (k : ℕ) → place ≤ k → k < length list → from ≤ slice_index list k

-- the numbers that are in the list: each once, rising
abbrev pub members : List ℕ → List ℕ
members listed = set_of (sum listed + 1) listed
