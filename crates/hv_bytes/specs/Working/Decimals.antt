-- Working definitions beside those of `Decimals`: for private contracts and proofs.
use Rattle.std.specs.Prelude.{◌≡◌, ℕ, ◌<◌, ◌≤◌, List, length, slice_index}

-- from 1 to 18 bytes, the first of them no zero where there are more
pub record HasDecimalShape (bytes : List ℕ) : Type 0 where
  pub some : 0 < length bytes
  pub short : length bytes ≤ 18
  pub plain : slice_index bytes 0 ≡ 48 → length bytes ≡ 1
