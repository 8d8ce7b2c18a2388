-- Decimals as they are in a text.
use Rattle.std.specs.Prelude.{◌≡◌, ℕ, ◌<◌, ◌^◌, List, decimal}

-- the bytes spell the number, in at most 18 digits and without a leading zero
pub record IsDecimal (bytes : List ℕ) (n : ℕ) : Type 0 where
  pub spelled : bytes ≡ decimal n
  pub short : n < 10 ^ 18

-- the same in at most 9 digits
pub record IsShortDecimal (bytes : List ℕ) (n : ℕ) : Type 0 where
  pub spelled : bytes ≡ decimal n
  pub short : n < 10 ^ 9
