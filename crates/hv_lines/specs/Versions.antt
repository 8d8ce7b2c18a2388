-- The two versions of a proof. A closed proof, which has version 2, begins with the line `helve 2`
-- and ends with the line `end`. Any other proof is open, and has version 1.
use Rattle.std.specs.Prelude.{◌==◌, List, [], ◌∷◌, ◌++◌, Bool, false, None, Some, codes, cond, ℕ}
use Rattle.std.specs.Str.{bytes_eq}
use Rattle.hv_bytes.specs.Pieces.{PieceBytes}
use Rattle.hv_lines.specs.declared.part.Part.{Part}
use Rattle.hv_lines.specs.declared.part.Part.TheVariants as P

-- the line with which a closed proof begins
abbrev pub first_mark : List ℕ
first_mark = codes "helve 2"

-- the line with which it ends
abbrev pub last_mark : List ℕ
last_mark = codes "end"

-- whether the piece is one of these two lines, at its place: `helve 2` is one as line 1 alone, and
-- `end` as the first such line of a closed proof
abbrev pub is_mark : Part → PieceBytes → Bool
is_mark P.AtStart (Some bytes) = bytes_eq bytes first_mark
is_mark P.BeforeEnd (Some bytes) = bytes_eq bytes last_mark
is_mark _ _ = false

-- how far a proof is read after one more piece
abbrev pub part_after : Part → PieceBytes → Part
part_after P.AtStart piece = cond (is_mark P.AtStart piece) P.BeforeEnd P.Open
part_after P.Open piece = P.Open
part_after P.BeforeEnd piece = cond (is_mark P.BeforeEnd piece) P.PastEnd P.BeforeEnd
part_after P.PastEnd piece = P.PastEnd

-- and after several more
abbrev pub part_from : Part → List PieceBytes → Part
part_from part [] = part
part_from part (piece ∷ rest) = part_from (part_after part piece) rest

-- how far a proof is read that begins with these pieces
abbrev pub part_of : List PieceBytes → Part
part_of pieces = part_from P.AtStart pieces

-- The lines of a closed proof are judged as those of an open one are, with three readings. Each of
-- its two marks is read as an empty line, which is skipped. A line behind its end that isn't
-- skipped is read as a line that is none of an open proof; `end` itself is such a line. And so is
-- what is missing where no line `end` comes.

-- a line behind the end, as it is judged
abbrev pub line_behind : List ℕ → List ℕ
line_behind [] = []
line_behind (byte ∷ bytes) = cond (byte == 35) (byte ∷ bytes) last_mark

-- a piece, as it is judged
abbrev pub judged_as : Part → PieceBytes → PieceBytes
judged_as P.PastEnd None = None
judged_as P.PastEnd (Some bytes) = Some (line_behind bytes)
judged_as part piece = cond (is_mark part piece) (Some []) piece

-- pieces, as they are judged, each at its own place
abbrev pub judged_from : Part → List PieceBytes → List PieceBytes
judged_from part [] = []
judged_from part (piece ∷ rest) = judged_as part piece ∷ judged_from (part_after part piece) rest

-- the pieces with which a proof begins, as they are judged
abbrev pub judged_so_far : List PieceBytes → List PieceBytes
judged_so_far pieces = judged_from P.AtStart pieces

-- what is judged behind all pieces: where the line `end` is missing, that
abbrev pub missing_end : Part → List PieceBytes
missing_end P.BeforeEnd = Some last_mark ∷ []
missing_end _ = []

-- the pieces of a whole proof, as they are judged
abbrev pub judged_whole : List PieceBytes → List PieceBytes
judged_whole pieces = judged_so_far pieces ++ missing_end (part_of pieces)
