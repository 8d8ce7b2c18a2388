-- A checker that is fed the lines of a file one after another, as they are read.
use Rattle.std.proofs.Common.{◌≡◌, ℕ, ◌≤◌, ◌∙◌, List, [], ◌∷◌, ◌++◌, Option, Some, None, IfSome}
use Rattle.std.proofs.Common.{append_assoc, ap, length, refl, subst, sym}
use Rattle.std.proofs.Common.{Err, Ok, arith}
use Rattle.std.specs.Prelude.{OnOk, Result}
use Rattle.std.specs.Io.KnownBytes.{IsAtEnd}
use Rattle.std.proofs.lemmas.List.{map-append}
use Rattle.hv_bytes.specs.FirstLine.{BeginsLong, FitsLimits, MovesBytes, TakesLine}
use Rattle.hv_bytes.specs.Pieces.{PieceBytes, as_pieces, pieces_of}
use Rattle.hv_bytes.specs.Working.Pieces.{GaveLines}
use Rattle.hv_bytes.specs.Standard.{standard}
use Rattle.hv_bytes.specs.States.{LinesState, coming_of, no_lines}
use Rattle.hv_bytes.specs.Files.{Names, Opens, bytes_of}
use Rattle.hv_bytes.proofs.WholeText.{gave_all, gave_front, gave_long, gave_more}
use Rattle.hv_lines.specs.declared.reason.Reason.{Reason}
use Rattle.hv_checker.specs.Checkers.{CheckerState, HasJudged, HasJudgedAt}
use Rattle.hv_checker.specs.Stopping.{stop_after}
use Rattle.hv_checker.specs.declared.piece.Fed.{Fed}
use Rattle.hv_checker.specs.declared.piece.Fed.TheVariants as F
use Rattle.hv_checker.specs.declared.stop.Stop.{Stop}
use Rattle.hv_checker.specs.declared.stop.Stop.TheVariants as S

-- of this file the lines given so far were fed, all were accepted, and these bytes are still to
-- come
pub record IsFeeding (file coming : Option (List ℕ)) (earlier number : ℕ) (checker : CheckerState) :
    Type 0 where
  pub going : checker.stop ≡ S.Going
  pub few : checker.fed ≤ number
  pub given : List (List ℕ)
  pub gave : GaveLines standard file given coming earlier
  pub stands : HasJudged checker (as_pieces given)

-- a line that was given was fed too
pub record IsFed (file coming : Option (List ℕ)) (earlier : ℕ) (checker : CheckerState) : Type 0
  where
    pub given : List (List ℕ)
    pub gave : GaveLines standard file given coming earlier
    pub stands : HasJudged checker (as_pieces given)

-- a line is given and fed
pub fed_line : (file old new : Option (List ℕ)) (line : List ℕ) (before after number : ℕ)
    (was is : CheckerState)
    → IsFeeding file old before number was → TakesLine old new line
    → MovesBytes old new before after
    → FitsLimits standard.line standard.file before (length line)
    → ((pieces : List PieceBytes) → HasJudged was pieces → HasJudged is (pieces ++ Some line ∷ []))
    → IsFed file new after is
fed_line file old new line before after number was is so_far takes passes fits stands = record {
  given = so_far.given ++ line ∷ [];
  gave = gave_more standard file old new so_far.given line before after so_far.gave takes passes
      fits;
  stands = subst (λ ps. HasJudged is ps) (sym (map-append (λ l. Some l) so_far.given (line ∷ [])))
      (stands (as_pieces so_far.given) so_far.stands);
}

-- where a piece was refused, it is so of all longer lists too
refused_longer : (checker : CheckerState) (reason : Reason) (pieces rest : List PieceBytes)
    → HasJudgedAt checker (S.Refused reason) pieces
    → HasJudgedAt checker (S.Refused reason) (pieces ++ rest)
refused_longer checker reason pieces rest (front, bad, behind, cut, counted, part, accepts, why) = (
  front,
  bad,
  behind ++ rest,
  ap (λ ps. ps ++ rest) cut
      ∙ append_assoc front (bad ∷ behind) rest,
  counted,
  part,
  accepts,
  why,
)

pub stands_longer : (checker : CheckerState) (reason : Reason) (pieces rest : List PieceBytes)
    → checker.stop ≡ S.Refused reason
    → HasJudged checker pieces → HasJudged checker (pieces ++ rest)
stands_longer checker reason pieces rest e stands =
    subst (λ s. HasJudgedAt checker s (pieces ++ rest)) (sym e)
    (refused_longer checker reason pieces rest (subst (λ s. HasJudgedAt checker s pieces) e stands))

-- a line was refused: the checker is as the whole file leaves it
pub fed_refused : (file coming : Option (List ℕ)) (earlier : ℕ) (checker : CheckerState)
    (reason : Reason)
    → IsFed file coming earlier checker → checker.stop ≡ S.Refused reason
    → IfSome file (λ bytes. HasJudged checker (pieces_of standard bytes))
fed_refused None coming earlier checker reason fed e = tt
fed_refused (Some bytes) coming earlier checker reason fed e =
    let front = gave_front standard (Some bytes) coming fed.given earlier fed.gave in
    subst (λ ps. HasJudged checker ps) (sym front.1)
    (stands_longer checker reason (as_pieces fed.given) front.0 e fed.stands)

-- a long line was fed, which is the last piece: the checker is as the whole file leaves it
pub fed_long : (file coming : Option (List ℕ)) (earlier number : ℕ) (was is : CheckerState)
    → IsFeeding file coming earlier number was
    → BeginsLong coming standard.line standard.file earlier
    → ((pieces : List PieceBytes) → HasJudged was pieces → HasJudged is (pieces ++ None ∷ []))
    → IfSome file (λ bytes. HasJudged is (pieces_of standard bytes))
fed_long None coming earlier number was is so_far long stands = tt
fed_long (Some bytes) coming earlier number was is so_far long stands =
    subst (λ ps. HasJudged is ps) (sym (gave_long standard (Some bytes) coming so_far.given earlier
    so_far.gave long))
    (stands (as_pieces so_far.given) so_far.stands)

-- a checker goes on after each answer but a refusal
pub goes_on : (before : Stop) (fed : Fed) → ((reason : Reason) → fed ≡ F.Refused reason → ⊥)
    → stop_after before fed ≡ before
goes_on before F.Skipped other = refl
goes_on before F.Good other = refl
goes_on before F.Marked other = refl
goes_on before (F.Refused reason) other = absurd (other reason refl)
goes_on before F.Stopped other = refl

-- all lines were fed: the checker is as the whole file leaves it
pub fed_all : (file coming : Option (List ℕ)) (earlier number : ℕ) (checker : CheckerState)
    → IsFeeding file coming earlier number checker → IsAtEnd coming
    → IfSome file (λ bytes. HasJudged checker (pieces_of standard bytes))
fed_all None coming earlier number checker so_far end = tt
fed_all (Some bytes) coming earlier number checker so_far end =
    subst (λ ps. HasJudged checker ps) (sym (gave_all standard (Some bytes) coming so_far.given
    earlier so_far.gave end)) so_far.stands

-- what is said of the bytes that an opened file has left is said of the bytes under its name
pub fed_opened : {E : Type 0} (files : Option Names) (name : List ℕ) (left : Option (List ℕ))
    (P : List ℕ → Type 0) (r : Result (Unit {0}) E)
    → Opens files name left → OnOk r (IfSome left P)
    → OnOk r (IfSome files (λ f. P (bytes_of f name)))
fed_opened None name left P (Ok u) opens h = tt
fed_opened (Some files) name left P (Ok u) opens h = subst (λ l. IfSome l P) opens h
fed_opened files name left P (Err e) opens h = tt

-- of a file no line was given yet
gave_none : (left : Option (List ℕ))
    → GaveLines standard left [] (coming_of (no_lines standard) left) 0
gave_none None = tt
gave_none (Some bytes) = refl

-- nothing was fed yet
pub fed_none : (left : Option (List ℕ)) (lines : LinesState) (checker : CheckerState)
    → lines ≡ no_lines standard → checker.fed ≡ 0 → checker.stop ≡ S.Going → HasJudged checker []
    → IsFeeding left (coming_of lines left) lines.earlier lines.number checker
fed_none left lines checker fresh unfed going stands =
    subst (λ (l : LinesState). IsFeeding left (coming_of l left) l.earlier l.number checker)
    (sym fresh) (record {
      going = going;
      few = omega (arith, unfed);
      given = [];
      gave = gave_none left;
      stands = stands;
    })
