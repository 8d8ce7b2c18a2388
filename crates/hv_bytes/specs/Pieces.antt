-- The pieces of a file: its lines in order, up to the first one that is long.
use Rattle.std.specs.Prelude.{ℕ, ◌+◌, ◌&&◌, Bool, List, [], ◌∷◌, Option, None, Some, map}
use Rattle.std.specs.Prelude.{length, nat_le, if◌then◌else◌}
use Rattle.hv_bytes.specs.FirstLine.{last_byte}
use Rattle.hv_bytes.specs.LineCuts.{lines_of}
use Rattle.hv_bytes.specs.declared.cutting.Limits.{Limits}

-- a piece of a file: the bytes of a line without its LF, or none where the line is long
abbrev pub PieceBytes : Type 0
PieceBytes = Option (List ℕ)

-- whether a line of this length, after so many earlier bytes of the file, is within both limits
abbrev pub fits_limits : Limits → ℕ → ℕ → Bool
fits_limits limits earlier length_of_line =
    nat_le length_of_line limits.line && nat_le (earlier + last_byte length_of_line) limits.file

-- the pieces that these lines are, after so many earlier bytes of the file: a file with a long line
-- is read no further
abbrev pub pieces_after : Limits → ℕ → List (List ℕ) → List PieceBytes
pieces_after limits earlier [] = []
pieces_after limits earlier (line ∷ lines) =
    if fits_limits limits earlier (length line)
    then Some line ∷ pieces_after limits (earlier + (length line + 1)) lines
    else None ∷ []

-- the pieces of a file
abbrev pub pieces_of : Limits → List ℕ → List PieceBytes
pieces_of limits file = pieces_after limits 0 (lines_of file)

-- these lines as pieces, none of them long
abbrev pub as_pieces : List (List ℕ) → List PieceBytes
as_pieces lines = map (λ line. Some line) lines
