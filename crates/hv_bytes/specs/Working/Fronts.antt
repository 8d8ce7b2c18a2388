-- The digits that bytes begin with: for private contracts and proofs.
use Rattle.std.specs.Prelude.{◌≡◌, ◌≢◌, ℕ, ◌<◌, ◌≤◌, List, length, take, slice_index}
use Rattle.std.specs.Str.Parse.{AllDigits, digits_value}

-- the first `count` bytes are digits, 18 at most, and where they are fewer and bytes follow, the
-- next one is no digit
pub record IsDigitFront (bytes : List ℕ) (count : ℕ) : Type 0 where
  pub within : count ≤ length bytes
  pub short : count ≤ 18
  pub digits : AllDigits 10 (take count bytes)
  pub whole : count < 18 → count < length bytes
      → 48 ≤ slice_index bytes count → slice_index bytes count ≤ 57 → ⊥

-- the first bytes are digits, of which the first is no zero, and spell the number
pub record SpellsFront (bytes : List ℕ) (count number : ℕ) : Type 0 where
  pub within : count ≤ length bytes
  pub digits : AllDigits 10 (take count bytes)
  pub value : number ≡ digits_value 10 (take count bytes)
  pub plain : slice_index bytes 0 ≢ 48
