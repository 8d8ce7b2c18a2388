-- How the pieces of a proof are judged, piece by piece; and that no line spells one of the marks.
use Rattle.std.proofs.Common.{◌≡◌, ◌==◌, ◌∙◌, ℕ, Bool, List, [], ◌∷◌, ◌++◌, Some}
use Rattle.std.proofs.Common.{None, append-nil, ap, arith, cond, false, inl, inr, length, refl}
use Rattle.std.proofs.Common.{subst, sym, true}
use Rattle.hv_bytes.specs.Pieces.{PieceBytes}
use Rattle.hv_lines.specs.Judged.{IsPassedOver}
use Rattle.hv_lines.specs.Spelling.{IsSkipped, Spells, spelling_of}
use Rattle.hv_lines.specs.Versions.{is_mark, judged_as, judged_from}
use Rattle.hv_lines.specs.Versions.{judged_whole, last_mark, line_behind, missing_end, part_after}
use Rattle.hv_lines.specs.Versions.{part_from}
use Rattle.hv_lines.specs.declared.line.Line.{Line}
use Rattle.hv_lines.specs.declared.line.Line.TheVariants as L
use Rattle.hv_lines.specs.declared.part.Part.{Part}
use Rattle.hv_lines.specs.declared.part.Part.TheVariants as P

-- pieces, and behind them others

pub judged_append : (part : Part) (front rest : List PieceBytes)
    → judged_from part (front ++ rest)
    ≡ judged_from part front ++ judged_from (part_from part front) rest
judged_append part [] rest = refl
judged_append part (piece ∷ front) rest =
    ap (λ ps. judged_as part piece ∷ ps) (judged_append (part_after part piece) front rest)

pub part_append : (part : Part) (front rest : List PieceBytes)
    → part_from part (front ++ rest) ≡ part_from (part_from part front) rest
part_append part [] rest = refl
part_append part (piece ∷ front) rest = part_append (part_after part piece) front rest

-- each piece is judged at its own place
pub judged_length : (part : Part) (pieces : List PieceBytes)
    → length (judged_from part pieces) ≡ length pieces
judged_length part [] = refl
judged_length part (piece ∷ rest) =
    let same = judged_length (part_after part piece) rest in omega (arith, same)

-- an open proof is judged as it is

judged_open : (pieces : List PieceBytes) → judged_from P.Open pieces ≡ pieces
judged_open [] = refl
judged_open (piece ∷ rest) = ap (λ ps. piece ∷ ps) (judged_open rest)

part_open : (pieces : List PieceBytes) → part_from P.Open pieces ≡ P.Open
part_open [] = refl
part_open (piece ∷ rest) = part_open rest

pub open_as_is : (pieces : List PieceBytes)
    → judged_from P.Open pieces ++ missing_end (part_from P.Open pieces) ≡ pieces
open_as_is pieces =
    ap (λ part. judged_from P.Open pieces ++ missing_end part) (part_open pieces)
    ∙ (append-nil (judged_from P.Open pieces) ∙ judged_open pieces)

open_by : (marked : Bool) (piece : PieceBytes) (rest : List PieceBytes) → marked ≡ false
    → (cond marked (Some []) piece ∷ judged_from (cond marked P.BeforeEnd P.Open) rest)
    ++ missing_end (part_from (cond marked P.BeforeEnd P.Open) rest) ≡ piece ∷ rest
open_by true piece rest plain = absurd (cc)
open_by false piece rest plain = ap (λ ps. piece ∷ ps) (open_as_is rest)

-- so is a proof whose first line isn't the first mark
pub open_whole : (piece : PieceBytes) (rest : List PieceBytes) → is_mark P.AtStart piece ≡ false
    → judged_whole (piece ∷ rest) ≡ piece ∷ rest
open_whole piece rest plain = open_by (is_mark P.AtStart piece) piece rest plain

-- no line spells one of the marks

pub none_first : (line : Line) → is_mark P.AtStart (Some (spelling_of line)) ≡ false
none_first (L.Acts id acts) = refl
none_first (L.Expr id expr) = refl
none_first (L.Known id statement word premises) = refl

-- the second item of a list
second_of : List ℕ → ℕ
second_of (first ∷ second ∷ rest) = second
second_of _ = 0

spells_space : (line : Line) → second_of (spelling_of line) ≡ 32
unfolding second_of
spells_space (L.Acts id acts) = refl
spells_space (L.Expr id expr) = refl
spells_space (L.Known id statement word premises) = refl

pub none_last : (line : Line) → Spells line last_mark → ⊥
unfolding second_of
none_last line spells =
    let other : second_of (spelling_of line) ≡ 110 = ap second_of spells.same in
    omega (arith, other, spells_space line)

-- and the last mark isn't skipped
pub last_stays : IsSkipped last_mark → ⊥
last_stays (inl none) = cc
last_stays (inr comment) = absurd (omega arith)

-- how one piece is judged

-- a mark is judged as an empty line
pub marked_empty : (part : Part) (piece : PieceBytes) → is_mark part piece ≡ true
    → judged_as part piece ≡ Some []
marked_empty P.AtStart piece marked = ap (λ b. cond b (Some []) piece) marked
marked_empty P.Open piece marked = absurd (cc)
marked_empty P.BeforeEnd piece marked = ap (λ b. cond b (Some []) piece) marked
marked_empty P.PastEnd piece marked = absurd (cc)

-- a line that is skipped is judged as it is, unless it is a mark
behind_as_is : (bytes : List ℕ) → IsSkipped bytes → line_behind bytes ≡ bytes
behind_as_is [] skipped = refl
behind_as_is (byte ∷ bytes) (inl none) = absurd (cc)
behind_as_is (byte ∷ bytes) (inr comment) =
    ap (λ b. cond b (byte ∷ bytes) last_mark)
    (subst (λ n. (n == 35) ≡ true) (sym comment) refl)

pub skipped_as_is : (part : Part) (piece : PieceBytes) → is_mark part piece ≡ false
    → IsPassedOver piece → judged_as part piece ≡ piece
skipped_as_is P.AtStart piece plain skipped = ap (λ b. cond b (Some []) piece) plain
skipped_as_is P.Open piece plain skipped = refl
skipped_as_is P.BeforeEnd piece plain skipped = ap (λ b. cond b (Some []) piece) plain
skipped_as_is P.PastEnd None plain skipped = refl
skipped_as_is P.PastEnd (Some bytes) plain skipped = ap (λ bs. Some bs) (behind_as_is bytes skipped)

-- and what is judged as one that is skipped is one
skipped_by : (is : Bool) (byte : ℕ) (bytes : List ℕ)
    → IsSkipped (cond is (byte ∷ bytes) last_mark) → IsSkipped (byte ∷ bytes)
skipped_by true byte bytes skipped = skipped
skipped_by false byte bytes skipped = absurd (last_stays skipped)

behind_skipped : (bytes : List ℕ) → IsSkipped (line_behind bytes) → IsSkipped bytes
behind_skipped [] skipped = skipped
behind_skipped (byte ∷ bytes) skipped = skipped_by (byte == 35) byte bytes skipped

pub passed_over : (part : Part) (piece : PieceBytes) → is_mark part piece ≡ false
    → IsPassedOver (judged_as part piece) → IsPassedOver piece
passed_over P.AtStart piece plain skipped =
    subst (λ b. IsPassedOver (cond b (Some []) piece)) plain skipped
passed_over P.Open piece plain skipped = skipped
passed_over P.BeforeEnd piece plain skipped =
    subst (λ b. IsPassedOver (cond b (Some []) piece)) plain skipped
passed_over P.PastEnd None plain skipped = skipped
passed_over P.PastEnd (Some bytes) plain skipped = behind_skipped bytes skipped
