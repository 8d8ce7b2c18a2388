-- Rows of numbers, one for each key.
use Rattle.std.specs.Prelude.{◌≡◌, ◌<◌, ◌≤◌, ◌+◌, ◌*◌, ◌/◌, ◌%◌, ◌↔◌, ℕ, List, length, map}
use Rattle.std.specs.Prelude.{slice_index, slice_index_or, slice_range}
use Rattle.std.specs.List.{Contains}
use Rattle.std.specs.List.Sorted.{IsNonDecreasingBy, IsStrictlyIncreasing}
use Rattle.hv_indexes.specs.declared.rows.RowHead.{RowHead}

-- the numbers of the key, rising
pub record IsRow (Pair : ℕ → ℕ → Type 0) (key : ℕ) (numbers : List ℕ) : Type 0 where
  pub rises : IsStrictlyIncreasing numbers
  pub has : (number : ℕ) → Contains numbers number ↔ Pair key number

-- the code of a key and a number
abbrev pub code : ℕ → ℕ → ℕ
code key number = key * 4294967296 + number

-- the key of a code
abbrev pub key_of : ℕ → ℕ
key_of c = c / 4294967296

-- the number of a code
abbrev pub place_of_code : ℕ → ℕ
place_of_code c = c % 4294967296

-- the codes before this place are of lesser keys, and the others are not
pub record IsEndBefore (key : ℕ) (codes : List ℕ) (place : ℕ) : Type 0 where
  pub within : place ≤ length codes
  pub before : (k : ℕ) → k < place → key_of (slice_index codes k) < key
  pub after : (k : ℕ) → place ≤ k → k < length codes → key ≤ key_of (slice_index codes k)

-- these lists keep the pairs: the codes of the pairs, which rise, and their numbers
pub record AreCoded (Pair : ℕ → ℕ → Type 0) (codes numbers : List ℕ) : Type 0 where
  pub rises : IsStrictlyIncreasing codes
  pub has : (c : ℕ) → Contains codes c ↔ ((key : ℕ) × (number : ℕ) × (c ≡ code key number)
      × (number < 4294967296) × Pair key number)
  pub small : (key number : ℕ) → Pair key number → number < 4294967296
  pub numbers_are : numbers ≡ map place_of_code codes

-- the heads tell where the codes of each key begin, by rising keys, and no key of a code is missing
pub record AreHeads (codes : List ℕ) (heads : List RowHead) : Type 0 where
  pub rises : IsNonDecreasingBy (λ h. h.key) heads
  pub each : (k : ℕ) (d : RowHead) → k < length heads
      → IsEndBefore (slice_index_or heads k d).key codes (slice_index_or heads k d).start
  pub all : (k : ℕ) → k < length codes
      → (j : ℕ) × (j < length heads)
      × ((d : RowHead) → (slice_index_or heads j d).key ≡ key_of (slice_index codes k))

-- they are the heads of so many codes
abbrev pub HasHeads : List RowHead → ℕ → Type 0
HasHeads heads size = (codes : List ℕ) × AreHeads codes heads × (length codes ≡ size)

-- the lists keep the pairs: by rising keys the numbers of each, and where those begin
pub record AreRows (Pair : ℕ → ℕ → Type 0) (heads : List RowHead) (numbers : List ℕ) : Type 0 where
  pub codes : List ℕ
  pub headed : AreHeads codes heads
  pub coded : AreCoded Pair codes numbers

-- this part of the numbers stands where the codes of the key do
abbrev pub IsPartOf : ℕ → List ℕ → List ℕ → List ℕ → Type 0
IsPartOf key codes numbers part =
    (from : ℕ) × (upto : ℕ) × IsEndBefore key codes from × IsEndBefore (key + 1) codes upto
    × (part ≡ slice_range numbers from upto)
