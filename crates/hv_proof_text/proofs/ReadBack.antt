-- The text of a proof is cut into the spellings of its lines, and these are accepted where the
-- lines are good.
use Rattle.std.proofs.Common.{◌≡◌, ◌≢◌, ℕ, suc, ◌+◌, ◌*◌, ◌≤◌, ◌∙◌, List, [], ◌∷◌, ◌++◌, Some}
use Rattle.std.proofs.Common.{length, map, reverse, refl, sym, ap, subst, inr, arith, append_assoc}
use Rattle.std.proofs.Common.{length-append}
use Rattle.std.proofs.lemmas.List.{length-reverse, map-append, reverse-append}
use Rattle.std.proofs.lemmas.List.Elements.{All-append, All-cons, All-head, All-nil, All-tail}
use Rattle.std.specs.List.{All, join_with_byte}
use Rattle.hv_bytes.specs.Pieces.{pieces_after, pieces_of}
use Rattle.hv_bytes.specs.LineCuts.{IsClean, lines_of}
use Rattle.hv_bytes.specs.Standard.{most_file_bytes, standard}
use Rattle.hv_bytes.proofs.LineLaws.{lines_of-ended}
use Rattle.hv_bytes.proofs.WholeText.{pieces-line}
use Rattle.hv_task.specs.Strips.{Strips}
use Rattle.hv_lines.specs.Drafts.{IsGoodTable, IsShortLine, draft_setting}
use Rattle.hv_lines.specs.Good.{AreGood}
use Rattle.hv_lines.specs.Judged.{Accepts, Concludes, JudgedBytes, LineText, Unsolvable}
use Rattle.hv_lines.specs.Order as O
use Rattle.hv_lines.specs.Setting.{Setting}
use Rattle.hv_lines.specs.Spelling.{IsSpelled, fields_of, proof_text, spelling_of}
use Rattle.hv_lines.specs.Versions.{judged_whole}
use Rattle.hv_lines.specs.declared.line.Line.{Line}
use Rattle.hv_lines.proofs.Drafting.{good_of}
use Rattle.hv_lines.proofs.Versions.{none_first, open_whole}
use Rattle.hv_proof_text.specs.Working.Tokens.{IsToken, field_of, tokens_of}
use Rattle.hv_proof_text.specs.declared.token.Token.{Token}
use Rattle.hv_proof_text.proofs.Decoding.{IsVisible, visible_field}
use Rattle.hv_proof_text.proofs.LineFields.{fields_are, tokens_short}

-- a spelling has no LF

visible_fields : (tokens : List Token) → All IsToken tokens → All IsVisible (map field_of tokens)
visible_fields [] short = All-nil IsVisible
visible_fields (token ∷ tokens) short =
    All-cons IsVisible (field_of token) (map field_of tokens)
    (visible_field token (All-head IsToken token tokens short))
    (visible_fields tokens (All-tail IsToken token tokens short))

clean_field : (field : List ℕ) → IsVisible field → IsClean field
clean_field field visible = λ i d within. λ e. let above = visible i d within in
    omega (arith, above, e)

clean_joined : (fields : List (List ℕ)) → All IsVisible fields → IsClean (join_with_byte 32 fields)
clean_joined [] visible = All-nil (λ b. b ≢ 10)
clean_joined (field ∷ []) visible = clean_field field (All-head IsVisible field [] visible)
clean_joined (field ∷ next ∷ fields) visible =
    All-append (λ b. b ≢ 10) field (32 ∷ join_with_byte 32 (next ∷ fields))
    (clean_field field (All-head IsVisible field (next ∷ fields) visible))
    (All-cons (λ b. b ≢ 10) 32 (join_with_byte 32 (next ∷ fields)) (λ e. omega (arith, e))
    (clean_joined (next ∷ fields) (All-tail IsVisible field (next ∷ fields) visible)))

pub spelling_clean : (line : Line) → IsSpelled line → IsClean (spelling_of line)
spelling_clean line spelled =
    clean_joined (fields_of line)
    (subst (All IsVisible) (fields_are line)
    (visible_fields (tokens_of line) (tokens_short line spelled)))

-- the text of lines, oldest first, is cut into their spellings

proof_lines : (lines : List Line) → All IsSpelled lines
    → lines_of (proof_text lines) ≡ map spelling_of lines
proof_lines [] spelled = refl
proof_lines (line ∷ lines) spelled =
    ap lines_of (append_assoc (spelling_of line) (10 ∷ []) (proof_text lines))
    ∙ (lines_of-ended (spelling_of line) (proof_text lines)
    (spelling_clean line (All-head IsSpelled line lines spelled))
    ∙ ap (λ ls. spelling_of line ∷ ls) (proof_lines lines (All-tail IsSpelled line lines spelled)))

pub text_size : (line : Line) (lines : List Line)
    → length (proof_text (line ∷ lines)) ≡ suc (length (spelling_of line)) + length
    (proof_text lines)
text_size line lines =
    omega (
      arith,
      length-append (spelling_of line ++ 10 ∷ []) (proof_text lines),
      length-append
          (spelling_of line) (10 ∷ []),
    )

-- the piece that spells a line
abbrev pub piece_of : Line → LineText
piece_of line = Some (spelling_of line)

proof_pieces : (earlier : ℕ) (lines : List Line) → All IsShortLine lines
    → earlier + length (proof_text lines) ≤ most_file_bytes
    → pieces_after standard earlier (map spelling_of lines) ≡ map piece_of lines
proof_pieces earlier [] short small = refl
proof_pieces earlier (line ∷ lines) short small =
    let size = text_size line lines in
    let here = All-head IsShortLine line lines short in
    pieces-line standard earlier (spelling_of line) (map spelling_of lines)
    (record { in_line = here; in_file = omega (arith, small, size) })
    ∙ ap (λ ps. piece_of line ∷ ps)
    (proof_pieces (earlier + (length (spelling_of line) + 1)) lines
    (All-tail IsShortLine line lines short) (omega (arith, small, size)))

-- good lines, the newest first, are accepted
accepted : (setting : Setting) (lines : List Line) → AreGood setting lines
    → Accepts setting (map piece_of lines) lines
accepted setting [] good = refl
accepted setting (line ∷ older) good =
    inr (
      line,
      older,
      refl,
      record { spelled = good.0 O.Spelling; same = refl },
      good.0,
      accepted
          setting older good.1,
    )

pub reverse_cons : {X : Type 0} (x : X) (xs : List X) → reverse (x ∷ xs) ≡ reverse xs ++ x ∷ []
reverse_cons x xs = reverse-append (x ∷ []) xs

pub All-reversed : {X : Type 0} (P : X → Type 0) (xs : List X) → All P xs → All P (reverse xs)
All-reversed P [] all = All-nil P
All-reversed P (x ∷ xs) all =
    subst (All P) (sym (reverse_cons x xs))
    (All-append P (reverse xs) (x ∷ []) (All-reversed P xs (All-tail P x xs all))
    (All-cons P x [] (All-head P x xs all) (All-nil P)))

pub map_reversed : {X Y : Type 0} (f : X → Y) (xs : List X)
    → reverse (map f (reverse xs)) ≡ map f xs
map_reversed f [] = refl
map_reversed f (x ∷ xs) =
    ap (λ ys. reverse (map f ys)) (reverse_cons x xs)
    ∙ (ap reverse (map-append f (reverse xs) (x ∷ []))
    ∙ (reverse-append (map f (reverse xs)) (f x ∷ []) ∙ ap (λ ys. f x ∷ ys) (map_reversed f xs)))

-- the lines of a good draft have spellings, which aren't too long

draft_spelled : (task : Strips) (lines : List Line) → IsGoodTable task lines → All IsSpelled lines
draft_spelled task [] good = All-nil IsSpelled
draft_spelled task (line ∷ older) good = All-cons IsSpelled line older (good.0.good O.Spelling)
    (draft_spelled task older good.1)

draft_short : (task : Strips) (lines : List Line) → IsGoodTable task lines → All IsShortLine lines
draft_short task [] good = All-nil IsShortLine
draft_short task (line ∷ older) good = All-cons IsShortLine line older good.0.short
    (draft_short task older good.1)

-- the text of a good draft is cut into the spellings of its lines
draft_cut : (task : Strips) (lines : List Line) → IsGoodTable task lines
    → length (proof_text (reverse lines)) ≤ most_file_bytes
    → pieces_of standard (proof_text (reverse lines)) ≡ map piece_of (reverse lines)
draft_cut task lines good small =
    ap (pieces_after standard 0) (proof_lines (reverse lines)
    (All-reversed IsSpelled lines (draft_spelled task lines good)))
    ∙ proof_pieces 0 (reverse lines) (All-reversed IsShortLine lines (draft_short task lines good))
    (omega (arith, small))

-- it is accepted, line by line
pub draft_accepted : (task : Strips) (lines : List Line) → IsGoodTable task lines
    → length (proof_text (reverse lines)) ≤ most_file_bytes
    → Accepts (draft_setting task) (reverse (pieces_of standard (proof_text (reverse lines)))) lines
draft_accepted task lines good small =
    subst (λ ps. Accepts (draft_setting task) ps lines)
    (sym (ap reverse (draft_cut task lines good small) ∙ map_reversed piece_of lines))
    (accepted (draft_setting task) lines (good_of task lines good))

-- as an open proof, since no line spells the mark of a closed one

spelled_open : (lines : List Line) → judged_whole (map piece_of lines) ≡ map piece_of lines
spelled_open [] = refl
spelled_open (line ∷ lines) = open_whole (piece_of line) (map piece_of lines) (none_first line)

draft_open : (task : Strips) (lines : List Line) → IsGoodTable task lines
    → length (proof_text (reverse lines)) ≤ most_file_bytes
    → judged_whole (pieces_of standard (proof_text (reverse lines)))
    ≡ pieces_of standard (proof_text (reverse lines))
draft_open task lines good small =
    subst (λ ps. judged_whole ps ≡ ps) (sym (draft_cut task lines good small))
    (spelled_open (reverse lines))

-- and judged by it, where some line concludes
pub draft_judged : (task : Strips) (lines : List Line) → IsGoodTable task lines → Concludes lines
    → length (proof_text (reverse lines)) ≤ most_file_bytes
    → JudgedBytes (draft_setting task) standard (proof_text (reverse lines)) Unsolvable
draft_judged task lines good concludes small = record {
  lines = lines;
  accepted = subst (λ ps. Accepts (draft_setting task) (reverse ps) lines)
      (sym (draft_open task lines good small)) (draft_accepted task lines good small);
  concludes = concludes;
}

-- so few short lines are no more than a file holds

short_text : (lines : List Line) → All IsShortLine lines
    → length (proof_text lines) ≤ 16777217 * length lines
short_text [] short = omega arith
short_text (line ∷ lines) short =
    let here = All-head IsShortLine line lines short in
    omega (
      arith,
      text_size line lines,
      here,
      short_text lines
          (All-tail IsShortLine line lines short),
    )

pub draft_small : (task : Strips) (lines : List Line) → IsGoodTable task lines
    → length lines ≤ 65535
    → length (proof_text (reverse lines)) ≤ most_file_bytes
draft_small task lines good few =
    omega (
      arith,
      short_text (reverse lines)
          (All-reversed IsShortLine lines (draft_short task lines good)),
      length-reverse lines,
      few,
    )
