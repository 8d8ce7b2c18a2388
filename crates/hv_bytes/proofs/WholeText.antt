-- A reader that takes the lines of a file one after another, against the pieces of the whole file.
use Rattle.std.proofs.Common.{◌≡◌, ℕ, ◌+◌, ◌≤◌, ◌&&◌, All, Bool, true, false, cond, List, [], ◌∷◌}
use Rattle.std.proofs.Common.{◌++◌, Option, None, Some, IfSome, length, nat_le, refl, sym}
use Rattle.std.proofs.Common.{ap, ◌∙◌, arith, inl, inr, ⊎_elim, append_assoc, append-nil}
use Rattle.std.proofs.Common.{length-append}
use Rattle.std.specs.Io.KnownBytes.{IsAtEnd}
use Rattle.std.proofs.Math.Bool.{and-false}
use Rattle.std.proofs.lemmas.Bool.{le-leb, leb-true, lt-leb}
use Rattle.std.proofs.lemmas.List.{map-append}
use Rattle.std.proofs.lemmas.List.Elements.{All-head, All-tail}
use Rattle.std.proofs.lemmas.List.Sums.{sum_by-cons}
use Rattle.hv_bytes.specs.FirstLine.{BeginsLong, FitsLimits, IsFirstLine, IsLong, MovesBytes}
use Rattle.hv_bytes.specs.FirstLine.{TakesLine, last_byte}
use Rattle.hv_bytes.specs.LineCuts.{lines_of}
use Rattle.hv_bytes.specs.Working.LineCuts.{bytes_in}
use Rattle.hv_bytes.specs.Pieces.{PieceBytes, as_pieces, fits_limits, pieces_after, pieces_of}
use Rattle.hv_bytes.specs.Working.Pieces.{GaveLines}
use Rattle.hv_bytes.specs.declared.cutting.Limits.{Limits}
use Rattle.hv_bytes.proofs.LineLaws.{lines_of-first}

-- the line has at most so many bytes
abbrev pub IsWithin : ℕ → List ℕ → Type 0
IsWithin most line = length line ≤ most

-- the test says what it is to be within the limits
pub fits-true : (limits : Limits) (earlier size : ℕ)
    → FitsLimits limits.line limits.file earlier size → fits_limits limits earlier size ≡ true
fits-true limits earlier size fits = rw (
  le-leb size limits.line fits.in_line,
  le-leb
      (earlier + last_byte size) limits.file fits.in_file,
)

pub fits-false : (limits : Limits) (earlier size : ℕ) → IsLong limits.line limits.file earlier size
    → fits_limits limits earlier size ≡ false
fits-false limits earlier size (inl long) = rw (lt-leb size limits.line long)
fits-false limits earlier size (inr long) = rw (lt-leb (earlier + last_byte size) limits.file long)
    (and-false (nat_le size limits.line))

and-left : (a b : Bool) → (a && b) ≡ true → a ≡ true
and-left true b e = refl
and-left false b e = absurd cc

and-right : (a b : Bool) → (a && b) ≡ true → b ≡ true
and-right true b e = e
and-right false b e = absurd cc

pub fits_from-true : (limits : Limits) (earlier size : ℕ) → fits_limits limits earlier size ≡ true
    → FitsLimits limits.line limits.file earlier size
fits_from-true limits earlier size is = record {
  in_line = leb-true size limits.line (and-left (nat_le size limits.line)
      (nat_le (earlier + last_byte size) limits.file) is);
  in_file = leb-true (earlier + last_byte size) limits.file
      (and-right (nat_le size limits.line) (nat_le (earlier + last_byte size) limits.file) is);
}

-- the first of the coming pieces is a line that fits
pub pieces-line : (limits : Limits) (earlier : ℕ) (line : List ℕ) (lines : List (List ℕ))
    → FitsLimits limits.line limits.file earlier (length line)
    → pieces_after limits earlier (line ∷ lines) ≡ Some line
    ∷ pieces_after limits (earlier + (length line + 1)) lines
pieces-line limits earlier line lines fits = rw (fits-true limits earlier (length line) fits)

-- or a long one, and then the last
pub pieces-long : (limits : Limits) (earlier : ℕ) (line : List ℕ) (lines : List (List ℕ))
    → IsLong limits.line limits.file earlier (length line)
    → pieces_after limits earlier (line ∷ lines) ≡ None ∷ []
pieces-long limits earlier line lines long = rw (fits-false limits earlier (length line) long)

as_pieces-push : (given : List (List ℕ)) (line : List ℕ)
    → as_pieces (given ++ line ∷ []) ≡ as_pieces given ++ Some line ∷ []
as_pieces-push given line = map-append (λ l. Some l) given (line ∷ [])

-- the pieces of the coming bytes, the first of which is a line that was taken off
pub pieces_taken : (limits : Limits) (old line new : List ℕ) (before after : ℕ)
    → IsFirstLine old line new → after + length new ≡ before + length old
    → FitsLimits limits.line limits.file before (length line)
    → pieces_after limits before (lines_of old) ≡ Some line
    ∷ pieces_after limits after (lines_of new)
pieces_taken limits old line new before after first sums fits =
    ap (pieces_after limits before) (lines_of-first old line new first)
    ∙ pieces-line limits before line (lines_of new) fits
    ∙ ⊎_elim
    (λ ended. let next : before + (length line + 1)
    ≡ after = omega (arith, ap length ended, length-append line (10 ∷ new)) in
    ap (λ n. Some line ∷ pieces_after limits n (lines_of new)) next)
    (λ last. rw (last.1) refl)
    first.cut

-- one more line
pub gave_more : (limits : Limits) (file old new : Option (List ℕ)) (given : List (List ℕ))
    (line : List ℕ) (before after : ℕ) → GaveLines limits file given old before
    → TakesLine old new line → MovesBytes old new before after
    → FitsLimits limits.line limits.file before (length line)
    → GaveLines limits file (given ++ line ∷ []) new after
gave_more limits None old new given line before after gave first sums fits = tt
gave_more limits (Some file) None new given line before after gave first sums fits = absurd gave
gave_more limits (Some file) (Some old) None given line before after gave first sums fits = absurd
    first
gave_more limits (Some file) (Some old) (Some new) given line before after gave first sums fits =
    gave ∙ ap (λ ps. as_pieces given ++ ps)
    (pieces_taken limits old line new before after first sums fits)
    ∙ sym (append_assoc (as_pieces given) (Some line ∷ [])
    (pieces_after limits after (lines_of new)))
    ∙ ap (λ ps. ps ++ pieces_after limits after (lines_of new)) (sym (as_pieces-push given line))

-- at the end all pieces were given: they are the lines of the file, none of them long
pub gave_all : (limits : Limits) (file coming : Option (List ℕ)) (given : List (List ℕ))
    (earlier : ℕ) → GaveLines limits file given coming earlier → IsAtEnd coming
    → IfSome file (λ bytes. pieces_of limits bytes ≡ as_pieces given)
gave_all limits None coming given earlier gave end = tt
gave_all limits (Some file) None given earlier gave end = absurd gave
gave_all limits (Some file) (Some coming) given earlier gave end =
    gave ∙ ap (λ bytes. as_pieces given ++ pieces_after limits earlier (lines_of bytes)) end
    ∙ append-nil (as_pieces given)

-- where the next line is long, it is the last piece
pub gave_long : (limits : Limits) (file coming : Option (List ℕ)) (given : List (List ℕ))
    (earlier : ℕ) → GaveLines limits file given coming earlier
    → BeginsLong coming limits.line limits.file earlier
    → IfSome file (λ bytes. pieces_of limits bytes ≡ as_pieces given ++ None ∷ [])
gave_long limits None coming given earlier gave long = tt
gave_long limits (Some file) None given earlier gave long = absurd gave
gave_long limits (Some file) (Some coming) given earlier gave long =
    gave ∙ ap (λ ps. as_pieces given ++ ps)
    (ap (pieces_after limits earlier) (lines_of-first coming long.0 long.1 long.2)
    ∙ pieces-long limits earlier long.0 (lines_of long.1) long.3)

-- the given lines are the first pieces, wherever the reader stops
pub gave_front : (limits : Limits) (file coming : Option (List ℕ)) (given : List (List ℕ))
    (earlier : ℕ) → GaveLines limits file given coming earlier
    → IfSome file (λ bytes. (rest : List PieceBytes)
    × (pieces_of limits bytes ≡ as_pieces given ++ rest))
gave_front limits None coming given earlier gave = tt
gave_front limits (Some file) None given earlier gave = absurd gave
gave_front limits (Some file) (Some coming) given earlier gave =
    (pieces_after limits earlier (lines_of coming), gave)

piece_some : (limits : Limits) (earlier : ℕ) (line : List ℕ) (lines : List (List ℕ)) (fits : Bool)
    → cond fits (Some line ∷ pieces_after limits (earlier + (length line + 1)) lines) (None ∷ [])
    ≡ [] → ⊥
piece_some limits earlier line lines true e = cc
piece_some limits earlier line lines false e = cc

line_from : (limits : Limits) (earlier : ℕ) (line f : List ℕ) (lines found : List (List ℕ))
    (fits : Bool) → cond fits (Some line ∷ pieces_after limits (earlier + (length line + 1)) lines)
    (None ∷ []) ≡ Some f ∷ as_pieces found
    → (pieces_after limits (earlier + (length line + 1)) lines ≡ as_pieces found → found ≡ lines)
    → f ∷ found ≡ line ∷ lines
line_from limits earlier line f lines found true e later =
    let rest : pieces_after limits (earlier + (length line + 1)) lines ≡ as_pieces found = cc in
    let same : found ≡ lines = later rest in
    let first : f ≡ line = cc in
    cc
line_from limits earlier line f lines found false e later = absurd cc

lines_from : (limits : Limits) (earlier : ℕ) (lines found : List (List ℕ))
    → pieces_after limits earlier lines ≡ as_pieces found → found ≡ lines
lines_from limits earlier [] [] e = refl
lines_from limits earlier [] (f ∷ found) e = absurd cc
lines_from limits earlier (line ∷ lines) [] e = absurd
    (piece_some limits earlier line lines (fits_limits limits earlier (length line)) e)
lines_from limits earlier (line ∷ lines) (f ∷ found) e = line_from limits earlier line f lines found
    (fits_limits limits earlier (length line)) e
    (lines_from limits (earlier + (length line + 1)) lines found)

-- pieces of which none is long are the lines of the file
pub lines_from_pieces : (limits : Limits) (file : List ℕ) (lines : List (List ℕ))
    → pieces_of limits file ≡ as_pieces lines → lines ≡ lines_of file
lines_from_pieces limits file lines e = lines_from limits 0 (lines_of file) lines e

-- lines that are short enough for a line, and all together for the file, are the pieces
pub pieces_of_short : (limits : Limits) (earlier : ℕ) (lines : List (List ℕ))
    → All (IsWithin limits.line) lines → earlier + bytes_in lines ≤ limits.file
    → pieces_after limits earlier lines ≡ as_pieces lines
pieces_of_short limits earlier [] each all = refl
pieces_of_short limits earlier (line ∷ lines) each all =
    let more : bytes_in (line ∷ lines) ≡ (length line + 1) + bytes_in lines = sum_by-cons
    (λ l. length l + 1) line lines in
    let last : last_byte (length line) ≤ length line + 1 = omega arith in
    pieces-line limits earlier line lines (record
    { in_line = All-head (IsWithin limits.line) line lines each; in_file = omega arith })
    ∙ ap (λ ps. Some line ∷ ps) (pieces_of_short limits (earlier + (length line + 1)) lines
    (All-tail (IsWithin limits.line) line lines each) (omega arith))
