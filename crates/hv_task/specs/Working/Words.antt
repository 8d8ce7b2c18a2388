-- Working definitions beside those of `Words`: for private contracts and proofs.
use Rattle.std.specs.Prelude.{◌≡◌, ◌≤◌, ◌<◌, ◌+◌, ◌*◌, ◌/◌, ◌%◌, ◌==◌, ℕ, Bool, false, List, length}
use Rattle.std.specs.Prelude.{map, slice_index, Option, MatchOption}
use Rattle.std.specs.Int.{bit_at}
use Rattle.std.specs.List.{range_with_len}

-- the flag at a place: the bit of the place in its word is 1
abbrev pub flag_at : List ℕ → ℕ → Bool
flag_at words p = bit_at (slice_index words (p / 64)) (p % 64) == 1

-- so many flags, from the first on
abbrev pub flags_of : List ℕ → ℕ → List Bool
flags_of words count = map (flag_at words) (range_with_len 0 count)

-- there are just enough words for so many flags, and none is set past them
pub record IsPacked (words : List ℕ) (count : ℕ) : Type 0 where
  pub upto : count ≤ 64 * length words
  pub tight : 64 * length words < count + 64
  pub past : (p : ℕ) → count ≤ p → flag_at words p ≡ false

-- the least bit of the word from k on that is 1, if there is one
abbrev pub IsNextBit : ℕ → ℕ → Option ℕ → Type 0
IsNextBit word k next =
    MatchOption next
    ((i : ℕ) → k ≤ i → i < 64 → bit_at word i ≡ 0)
    (λ b. (k ≤ b) × (b < 64) × (bit_at word b ≡ 1) × ((i : ℕ) → k ≤ i → i < b → bit_at word i ≡ 0))
