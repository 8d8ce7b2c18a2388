-- The fields of a line, parted by spaces, byte 32.
use Rattle.std.specs.Prelude.{◌≢◌, ℕ, ◌==◌, List, All}
use Rattle.std.specs.List.{slice_split}

-- the fields of a line: its bytes cut at each space, so that there is one more of them than there
-- are spaces
abbrev pub cut_fields : List ℕ → List (List ℕ)
cut_fields line = slice_split (λ b. b == 32) line

-- no byte is a space
abbrev pub HasNoSpace : List ℕ → Type 0
HasNoSpace bytes = All (λ b. b ≢ 32) bytes
