-- Digits of a number at the front of a line.
use Rattle.std.specs.Prelude.{◌≡◌, ◌≢◌, ◌<◌, ◌≤◌, ◌+◌, ◌*◌, ◌^◌, ℕ, List, slice_index, take}
use Rattle.std.specs.Str.Parse.{AllDigits, digits_value}

-- the first bytes are digits, of which the first is no zero, and spell the number
pub record SpellsNumber (bytes : List ℕ) (count number : ℕ) : Type 0 where
  pub digits : AllDigits 10 (take count bytes)
  pub value : number ≡ digits_value 10 (take count bytes)
  pub plain : slice_index bytes 0 ≢ 48

-- the byte spells a digit
abbrev pub IsDigit : ℕ → Type 0
IsDigit b = (48 ≤ b) × (b ≤ 57)

-- for each byte the digit that it spells, or 2^32; and behind them for each byte ten times the
-- digit, or 2^32
pub record AreDigits (digits : List ℕ) : Type 0 where
  pub most : (k : ℕ) → k < 512 → slice_index digits k ≤ 2 ^ 32
  pub unit : (b : ℕ) → b < 256 → slice_index digits b < 2 ^ 32
      → IsDigit b × (slice_index digits b + 48 ≡ b)
  pub tens : (b : ℕ) → b < 256 → slice_index digits (256 + b) < 2 ^ 32
      → IsDigit b × (slice_index digits (256 + b) + 480 ≡ b * 10)
