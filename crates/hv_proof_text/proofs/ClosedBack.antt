-- The text of a closed proof is cut into its marks and the spellings of its lines. So lines that
-- are accepted of some text are accepted of the text of the closed proof that has them.
use Rattle.std.proofs.Common.{◌≡◌, ℕ, ◌+◌, ◌==◌, ◌≤◌, ◌∙◌, All, Bool, true, false, List, [], ◌∷◌}
use Rattle.std.proofs.Common.{◌++◌, None, Some, ap, append-nil, append_assoc, arith, cond, inl, inr}
use Rattle.std.proofs.Common.{length, length-append, map, refl, reverse, subst, sym, if◌then◌else◌}
use Rattle.std.proofs.lemmas.List.{reverse-append}
use Rattle.std.proofs.lemmas.List.Elements.{All-cons, All-head, All-nil, All-tail}
use Rattle.std.specs.Str.{bytes_eq}
use Rattle.hv_bytes.specs.LineCuts.{lines_of}
use Rattle.hv_bytes.specs.Pieces.{fits_limits, pieces_after, pieces_of}
use Rattle.hv_bytes.specs.Standard.{most_file_bytes, most_line_bytes, standard}
use Rattle.hv_bytes.proofs.LineLaws.{lines_of-ended}
use Rattle.hv_bytes.proofs.WholeText.{fits_from-true, pieces-line}
use Rattle.hv_lines.specs.Drafts.{IsShortLine}
use Rattle.hv_lines.specs.Judged.{Accepts, Concludes, JudgedBytes, LineText, Unsolvable}
use Rattle.hv_lines.specs.Setting.{Setting}
use Rattle.hv_lines.specs.Spelling.{IsSpelled, proof_text, spelling_of}
use Rattle.hv_lines.specs.Versions.{first_mark, is_mark, judged_as, judged_from, judged_so_far}
use Rattle.hv_lines.specs.Versions.{judged_whole, last_mark, missing_end, part_after, part_from}
use Rattle.hv_lines.specs.declared.line.Line.{Line}
use Rattle.hv_lines.specs.declared.line.Line.TheVariants as L
use Rattle.hv_lines.specs.declared.part.Part.{Part}
use Rattle.hv_lines.specs.declared.part.Part.TheVariants as P
use Rattle.hv_proof_text.specs.Closed.{closed_text}
use Rattle.hv_proof_text.proofs.ReadBack.{All-reversed, map_reversed, piece_of, reverse_cons}
use Rattle.hv_proof_text.proofs.ReadBack.{spelling_clean, text_size}

-- the text of lines, the oldest first, in front of another text

lines_before : (lines : List Line) (rest : List ℕ) → All IsSpelled lines
    → lines_of (proof_text lines ++ rest) ≡ map spelling_of lines ++ lines_of rest
lines_before [] rest spelled = refl
lines_before (line ∷ lines) rest spelled =
    ap lines_of
    (append_assoc (spelling_of line ++ 10 ∷ []) (proof_text lines) rest
    ∙ append_assoc (spelling_of line) (10 ∷ []) (proof_text lines ++ rest))
    ∙ (lines_of-ended (spelling_of line) (proof_text lines ++ rest)
    (spelling_clean line (All-head IsSpelled line lines spelled))
    ∙ ap (λ ls. spelling_of line ∷ ls)
    (lines_before lines rest (All-tail IsSpelled line lines spelled)))

pieces_before : (earlier : ℕ) (lines : List Line) (more : List (List ℕ)) → All IsShortLine lines
    → earlier + length (proof_text lines) ≤ most_file_bytes
    → pieces_after standard earlier (map spelling_of lines ++ more)
    ≡ map piece_of lines ++ pieces_after standard (earlier + length (proof_text lines)) more
pieces_before earlier [] more short small =
    let none : earlier ≡ earlier + 0 = omega arith in
    ap (λ n. pieces_after standard n more) none
pieces_before earlier (line ∷ lines) more short small =
    let size = text_size line lines in
    let here = All-head IsShortLine line lines short in
    let next = earlier + (length (spelling_of line) + 1) in
    let after : next + length (proof_text lines) ≡ earlier + length (proof_text (line ∷ lines)) =
    omega (arith, size) in
    pieces-line standard earlier (spelling_of line) (map spelling_of lines ++ more)
    (record { in_line = here; in_file = omega (arith, small, size) })
    ∙ ap (λ ps. piece_of line ∷ ps)
    (pieces_before next lines more (All-tail IsShortLine line lines short)
    (omega (arith, small, size))
    ∙ ap (λ n. map piece_of lines ++ pieces_after standard n more) after)

-- the text of a closed proof

closed_lines : (lines : List Line) → All IsSpelled lines
    → lines_of (closed_text lines) ≡ first_mark ∷ (map spelling_of lines ++ last_mark ∷ [])
closed_lines lines spelled =
    ap (λ ls. first_mark ∷ ls) (lines_before lines (last_mark ++ 10 ∷ []) spelled)

closed_size : (lines : List Line)
    → length (closed_text lines) ≡ 8 + (length (proof_text lines) + 4)
closed_size lines = omega (arith, length-append (proof_text lines) (last_mark ++ 10 ∷ []))

closed_pieces : (lines : List Line) → All IsSpelled lines → All IsShortLine lines
    → length (closed_text lines) ≤ most_file_bytes
    → pieces_of standard (closed_text lines)
    ≡ Some first_mark ∷ (map piece_of lines ++ Some last_mark ∷ [])
closed_pieces lines spelled short small =
    let size = closed_size lines in
    let whole = map spelling_of lines ++ last_mark ∷ [] in
    ap (pieces_after standard 0) (closed_lines lines spelled)
    ∙ (pieces-line standard 0 first_mark whole
    (record { in_line = omega arith; in_file = omega arith })
    ∙ ap (λ ps. Some first_mark ∷ ps)
    (pieces_before 8 lines (last_mark ∷ []) short (omega (arith, small, size))
    ∙ ap (λ ps. map piece_of lines ++ ps)
    (pieces-line standard (8 + length (proof_text lines)) last_mark []
    (record { in_line = omega arith; in_file = omega (arith, small, size) }))))

-- no line is spelled as the last mark is, so the lines of a closed proof are judged as they are

no_mark : (line : Line) → is_mark P.BeforeEnd (piece_of line) ≡ false
no_mark (L.Acts id acts) = refl
no_mark (L.Expr id expr) = refl
no_mark (L.Known id statement word premises) = refl

judged_line : (line : Line) → judged_as P.BeforeEnd (piece_of line) ≡ piece_of line
judged_line line = ap (λ t. cond t (Some []) (piece_of line)) (no_mark line)

part_line : (line : Line) → part_after P.BeforeEnd (piece_of line) ≡ P.BeforeEnd
part_line line = ap (λ t. cond t P.PastEnd P.BeforeEnd) (no_mark line)

judged_lines : (lines : List Line) (more : List LineText)
    → judged_from P.BeforeEnd (map piece_of lines ++ more)
    ≡ map piece_of lines ++ judged_from P.BeforeEnd more
judged_lines [] more = refl
judged_lines (line ∷ lines) more =
    ap (λ p. p ∷ judged_from (part_after P.BeforeEnd (piece_of line)) (map piece_of lines ++ more))
    (judged_line line)
    ∙ ap (λ ps. piece_of line ∷ ps)
    (ap (λ part. judged_from part (map piece_of lines ++ more)) (part_line line)
    ∙ judged_lines lines more)

part_lines : (lines : List Line) (more : List LineText)
    → part_from P.BeforeEnd (map piece_of lines ++ more) ≡ part_from P.BeforeEnd more
part_lines [] more = refl
part_lines (line ∷ lines) more =
    ap (λ part. part_from part (map piece_of lines ++ more)) (part_line line)
    ∙ part_lines lines more

closed_whole : (lines : List Line)
    → judged_whole (Some first_mark ∷ (map piece_of lines ++ Some last_mark ∷ []))
    ≡ Some [] ∷ (map piece_of lines ++ Some [] ∷ [])
closed_whole lines =
    let more = Some last_mark ∷ [] in
    ap
    (λ part. (Some [] ∷ judged_from P.BeforeEnd (map piece_of lines ++ more)) ++ missing_end part)
    (part_lines lines more)
    ∙ (append-nil (Some [] ∷ judged_from P.BeforeEnd (map piece_of lines ++ more))
    ∙ ap (λ ps. Some [] ∷ ps) (judged_lines lines more))

-- the pieces of a file that are given aren't long, nor are they as they are judged

abbrev IsShortPiece : LineText → Type 0
IsShortPiece None = Unit {0}
IsShortPiece (Some bytes) = length bytes ≤ most_line_bytes

next_short : (earlier : ℕ) (line : List ℕ) (rest : List LineText) (fits : Bool)
    → fits ≡ fits_limits standard earlier (length line) → All IsShortPiece rest
    → All IsShortPiece (if fits then Some line ∷ rest else None ∷ [])
next_short earlier line rest true is short =
    All-cons IsShortPiece (Some line) rest
    (fits_from-true standard earlier (length line) (sym is)).in_line short
next_short earlier line rest false is short =
    All-cons IsShortPiece None [] tt (All-nil IsShortPiece)

pieces_short : (earlier : ℕ) (lines : List (List ℕ))
    → All IsShortPiece (pieces_after standard earlier lines)
pieces_short earlier [] = All-nil IsShortPiece
pieces_short earlier (line ∷ lines) =
    next_short earlier line (pieces_after standard (earlier + (length line + 1)) lines)
    (fits_limits standard earlier (length line)) refl
    (pieces_short (earlier + (length line + 1)) lines)

marked_short : (test : Bool) (bytes : List ℕ) → length bytes ≤ most_line_bytes
    → IsShortPiece (cond test (Some []) (Some bytes))
marked_short true bytes short = omega arith
marked_short false bytes short = short

behind_short : (test : Bool) (bytes : List ℕ) → length bytes ≤ most_line_bytes
    → length (cond test bytes last_mark) ≤ most_line_bytes
behind_short true bytes short = short
behind_short false bytes short = omega arith

judged_short : (part : Part) (piece : LineText) → IsShortPiece piece
    → IsShortPiece (judged_as part piece)
judged_short P.AtStart None short = tt
judged_short P.Open None short = tt
judged_short P.BeforeEnd None short = tt
judged_short P.PastEnd None short = tt
judged_short P.AtStart (Some bytes) short = marked_short (bytes_eq bytes first_mark) bytes short
judged_short P.Open (Some bytes) short = short
judged_short P.BeforeEnd (Some bytes) short = marked_short (bytes_eq bytes last_mark) bytes short
judged_short P.PastEnd (Some []) short = short
judged_short P.PastEnd (Some (byte ∷ bytes)) short = behind_short (byte == 35) (byte ∷ bytes) short

from_short : (part : Part) (pieces : List LineText) → All IsShortPiece pieces
    → All IsShortPiece (judged_from part pieces)
from_short part [] short = All-nil IsShortPiece
from_short part (piece ∷ rest) short =
    All-cons IsShortPiece (judged_as part piece) (judged_from (part_after part piece) rest)
    (judged_short part piece (All-head IsShortPiece piece rest short))
    (from_short (part_after part piece) rest (All-tail IsShortPiece piece rest short))

-- lines that are accepted, the newest first, have spellings, which are no longer than their pieces,
-- and are accepted of these

module _ (setting : Setting) where
  lines_short : (pieces : List LineText) (lines : List Line) → All IsShortPiece pieces
      → Accepts setting pieces lines → All IsShortLine lines
  lines_short [] lines short none =
      subst (λ ls. All IsShortLine ls) (sym none) (All-nil IsShortLine)
  lines_short (None ∷ older) lines short accepts = absurd accepts
  lines_short (Some bytes ∷ older) lines short (inl (skipped, accepts)) =
      lines_short older lines (All-tail IsShortPiece (Some bytes) older short) accepts
  lines_short (Some bytes ∷ older) lines short
      (inr (line, before, same, spells, good, accepts)) =
      let here : length bytes ≤ most_line_bytes =
      All-head IsShortPiece (Some bytes) older short in
      subst (λ ls. All IsShortLine ls) (sym same)
      (All-cons IsShortLine line before
      (subst (λ text. length text ≤ most_line_bytes) (sym spells.same) here)
      (lines_short older before (All-tail IsShortPiece (Some bytes) older short) accepts))

  lines_spelled : (pieces : List LineText) (lines : List Line) → Accepts setting pieces lines
      → All IsSpelled lines
  lines_spelled [] lines none = subst (λ ls. All IsSpelled ls) (sym none) (All-nil IsSpelled)
  lines_spelled (None ∷ older) lines accepts = absurd accepts
  lines_spelled (Some bytes ∷ older) lines (inl (skipped, accepts)) =
      lines_spelled older lines accepts
  lines_spelled (Some bytes ∷ older) lines (inr (line, before, same, spells, good, accepts)) =
      subst (λ ls. All IsSpelled ls) (sym same)
      (All-cons IsSpelled line before spells.spelled (lines_spelled older before accepts))

  respelled : (pieces : List LineText) (lines : List Line) (first : List LineText)
      → Accepts setting pieces lines → Accepts setting first []
      → Accepts setting (map piece_of lines ++ first) lines
  respelled [] lines first none begins =
      subst (λ ls. Accepts setting (map piece_of ls ++ first) ls) (sym none) begins
  respelled (None ∷ older) lines first accepts begins = absurd accepts
  respelled (Some bytes ∷ older) lines first (inl (skipped, accepts)) begins =
      respelled older lines first accepts begins
  respelled (Some bytes ∷ older) lines first (inr (line, before, same, spells, good, accepts))
      begins =
      subst (λ ls. Accepts setting (map piece_of ls ++ first) ls) (sym same)
      (inr (
        line,
        before,
        refl,
        record { spelled = spells.spelled; same = refl },
        good,
        respelled older before first accepts begins,
      ))

  -- lines that are accepted of a text are accepted of the text of the closed proof that has them
  pub closed_accepted : (bytes : List ℕ) (lines : List Line)
      → Accepts setting (reverse (judged_so_far (pieces_of standard bytes))) lines
      → length (closed_text (reverse lines)) ≤ most_file_bytes
      → Accepts setting
      (reverse (judged_whole (pieces_of standard (closed_text (reverse lines))))) lines
  closed_accepted bytes lines accepts small =
      let given = judged_so_far (pieces_of standard bytes) in
      let short = All-reversed IsShortLine lines (lines_short (reverse given) lines
      (All-reversed IsShortPiece given
      (from_short P.AtStart (pieces_of standard bytes) (pieces_short 0 (lines_of bytes)))) accepts)
      in
      let spelled = All-reversed IsSpelled lines (lines_spelled (reverse given) lines accepts) in
      let inner = map piece_of (reverse lines) in
      let cut = ap judged_whole (closed_pieces (reverse lines) spelled short small)
      ∙ closed_whole (reverse lines) in
      let turned : reverse (Some [] ∷ (inner ++ Some [] ∷ []))
      ≡ Some [] ∷ (map piece_of lines ++ Some [] ∷ []) =
      reverse_cons (Some []) (inner ++ Some [] ∷ [])
      ∙ ap (λ ps. ps ++ Some [] ∷ [])
      (reverse-append inner (Some [] ∷ []) ∙ ap (λ ps. Some [] ∷ ps) (map_reversed piece_of lines))
      in
      subst (λ ps. Accepts setting ps lines) (sym (ap reverse cut ∙ turned))
      (inl (
        inl refl,
        respelled (reverse given) lines (Some [] ∷ []) accepts (inl (inl refl, refl)),
      ))

  -- and where they conclude, that text is judged by them
  pub closed_judged : (bytes : List ℕ) (lines : List Line)
      → Accepts setting (reverse (judged_so_far (pieces_of standard bytes))) lines
      → Concludes lines → length (closed_text (reverse lines)) ≤ most_file_bytes
      → JudgedBytes setting standard (closed_text (reverse lines)) Unsolvable
  closed_judged bytes lines accepts concludes small = record {
    lines = lines;
    accepted = closed_accepted bytes lines accepts small;
    concludes = concludes;
  }
