-- Places by code: chains of earlier places.
use Rattle.std.specs.Prelude.{◌≡◌, ◌<◌, ◌≤◌, ◌-◌, ◌*◌, ◌/◌, ◌%◌, ◌^◌, ℕ, List, length, slice_index}

-- the code at a place
abbrev pub code_at : List ℕ → ℕ → ℕ
code_at codes k = slice_index codes k

-- in which of so many slots a code is chained, by this factor: the high half of a product
unfoldable pub slot_of : ℕ → ℕ → ℕ → ℕ
slot_of factor slots code = code * factor % 2 ^ 64 * slots / 2 ^ 64

-- in which slot a place is chained
abbrev pub slot_at : List ℕ → ℕ → ℕ → ℕ → ℕ
slot_at codes factor slots k = slot_of factor slots (slice_index codes k)

-- the end is one more than the last place below the bound of which the test says x, or 0 where
-- there is none
pub record IsEnd (test : ℕ → ℕ) (x bound end : ℕ) : Type 0 where
  pub upto : end ≤ bound
  pub after : (k : ℕ) → k < bound → test k ≡ x → k < end
  pub there : 0 < end → test (end - 1) ≡ x

-- each place leads to the last earlier one of its slot
abbrev pub IsChain : List ℕ → List ℕ → ℕ → ℕ → ℕ → Type 0
IsChain codes before factor slots n =
    (p : ℕ) → p < n
    → IsEnd (slot_at codes factor slots) (slot_at codes factor slots p) p (slice_index before p)

-- the chains from the slots on have the first n places
pub record IsLinked (codes before heads : List ℕ) (factor slots n : ℕ) : Type 0 where
  pub starts : (b : ℕ) → b < slots → IsEnd (slot_at codes factor slots) b n (slice_index heads b)
  pub chain : IsChain codes before factor slots n

-- a table of the places of these codes
pub record IsPlaceTable (codes before heads : List ℕ) (factor : ℕ) : Type 0 where
  pub linked : IsLinked codes before heads factor (length heads) (length codes)
  pub as_many : length codes ≤ length before
  pub some : 0 < length codes → 0 < length heads
  pub few : length codes < 2 ^ 32
