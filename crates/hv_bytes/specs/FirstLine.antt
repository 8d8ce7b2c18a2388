-- The first line of what is still to come, and when it is long.
use Rattle.std.specs.Prelude.{◌≡◌, ◌≢◌, ℕ, ◌+◌, ◌<◌, ◌≤◌, ◌⊎◌, max, List, [], ◌∷◌, ◌++◌, length}
use Rattle.std.specs.Prelude.{Option, None, Some}
use Rattle.hv_bytes.specs.LineCuts.{IsClean}

-- the first line of these bytes, without its LF, and what comes after it and its LF
pub record IsFirstLine (coming line rest : List ℕ) : Type 0 where
  pub some : coming ≢ []
  pub clean : IsClean line
  pub cut : (coming ≡ line ++ 10 ∷ rest) ⊎ ((coming ≡ line) × (rest ≡ []))

-- the number of the line's last byte among its own: an empty line's last byte is its LF
abbrev pub last_byte : ℕ → ℕ
last_byte length_of_line = max 1 length_of_line

-- a line of this length, after so many earlier bytes of the file, is within both limits
pub record FitsLimits (line_limit file_limit earlier length_of_line : ℕ) : Type 0 where
  pub in_line : length_of_line ≤ line_limit
  pub in_file : earlier + last_byte length_of_line ≤ file_limit

-- a line of this length, after so many earlier bytes of the file, is long
abbrev pub IsLong : ℕ → ℕ → ℕ → ℕ → Type 0
IsLong line_limit file_limit earlier length_of_line =
    (line_limit < length_of_line) ⊎ (file_limit < earlier + last_byte length_of_line)

-- the first line of the known coming bytes is long
abbrev pub BeginsLong : Option (List ℕ) → ℕ → ℕ → ℕ → Type 0
BeginsLong None line_limit file_limit earlier = Unit {0}
BeginsLong (Some coming) line_limit file_limit earlier =
    (line : List ℕ) × (rest : List ℕ) × IsFirstLine coming line rest
    × IsLong line_limit file_limit earlier (length line)

-- the first line of the known coming bytes was taken off
abbrev pub TakesLine : Option (List ℕ) → Option (List ℕ) → List ℕ → Type 0
TakesLine None new line = Unit {0}
TakesLine (Some old) None line = ⊥
TakesLine (Some old) (Some new) line = IsFirstLine old line new

-- as many bytes joined the earlier ones as left the known coming ones
abbrev pub MovesBytes : Option (List ℕ) → Option (List ℕ) → ℕ → ℕ → Type 0
MovesBytes None new before after = Unit {0}
MovesBytes (Some old) None before after = ⊥
MovesBytes (Some old) (Some new) before after = after + length new ≡ before + length old
