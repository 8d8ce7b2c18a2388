-- A checker and the pieces that it was fed: one more piece, and the end.
use Rattle.std.proofs.Common.{◌≡◌, ◌+◌, ◌∙◌, ℕ, List, [], ◌∷◌, ◌++◌, Some, None, append_assoc, inl}
use Rattle.std.proofs.Common.{false, inr, refl, reverse, sym, ap, subst}
use Rattle.std.proofs.lemmas.List.{length_push, reverse-append}
use Rattle.hv_lines.specs.Good.{IsGood}
use Rattle.hv_lines.specs.Judged.{Accepts, IsPassedOver, IsReason, LineText}
use Rattle.hv_lines.specs.Setting.{Setting}
use Rattle.hv_lines.specs.Versions.{is_mark, judged_as, judged_from, judged_so_far}
use Rattle.hv_lines.specs.Versions.{last_mark, missing_end, part_after, part_of}
use Rattle.hv_lines.specs.declared.line.Line.{Line}
use Rattle.hv_lines.specs.declared.part.Part.{Part}
use Rattle.hv_lines.specs.declared.part.Part.TheVariants as P
use Rattle.hv_lines.specs.declared.reason.Reason.{Reason}
use Rattle.hv_lines.specs.declared.reason.Reason.TheVariants as R
use Rattle.hv_lines.proofs.Versions.{judged_append, judged_length, last_stays, marked_empty}
use Rattle.hv_lines.proofs.Versions.{none_last, part_append, passed_over}
use Rattle.hv_lines.proofs.Versions.{skipped_as_is}
use Rattle.hv_checker.specs.PieceVerdicts.{IsFeedAnswer, IsSpelledBy}
use Rattle.hv_checker.specs.Checkers.{CheckerState, SaysAtEnd, SaysEnd, HasJudged, HasJudgedAt}
use Rattle.hv_checker.specs.Checkers.{refusal_at}
use Rattle.hv_checker.specs.Stopping.{stop_after}
use Rattle.hv_checker.specs.Working.PieceVerdicts.{IsPlainFeedAnswer}
use Rattle.hv_checker.specs.declared.piece.End.TheVariants as E
use Rattle.hv_checker.specs.declared.piece.Fed.{Fed}
use Rattle.hv_checker.specs.declared.piece.Fed.TheVariants as F
use Rattle.hv_checker.specs.declared.stop.Stop.{Stop}
use Rattle.hv_checker.specs.declared.stop.Stop.TheVariants as S
use Rattle.hv_checker.proofs.PieceReasons.{grammar_reason}

-- a piece after a refusal changes nothing
pub stands_stopped : (checker : CheckerState) (stop : Stop) (pieces : List LineText)
    (piece : LineText) → (stop ≡ S.Going → ⊥)
    → HasJudgedAt checker stop pieces → HasJudgedAt checker stop (pieces ++ piece ∷ [])
stands_stopped checker S.Going pieces piece stopped stands = absurd (stopped refl)
stands_stopped checker (S.Refused reason) pieces piece stopped
    (front, bad, rest, cut, counted, part, accepts, is_reason) = (
      front,
      bad,
      rest ++ piece ∷ [],
      ap (λ ps. ps ++ piece ∷ []) cut
          ∙ append_assoc front (bad ∷ rest) (piece ∷ []),
      counted,
      part,
      accepts,
      is_reason,
    )
stands_stopped checker S.Memory pieces piece stopped stands = absurd stands

-- one more accepted piece
accepts_next : (setting : Setting) (older : List LineText) (piece : LineText)
    (lines new : List Line)
    → Accepts setting older lines → (IsPassedOver piece × (new ≡ lines))
    → Accepts setting (piece ∷ older) new
accepts_next setting older None lines new accepts skipped = absurd skipped.0
accepts_next setting older (Some bytes) lines new accepts skipped =
    inl (skipped.0, subst (λ ls. Accepts setting older ls) (sym skipped.1) accepts)

accepts_line : (setting : Setting) (older : List LineText) (piece : LineText)
    (lines new : List Line) (line : Line)
    → Accepts setting older lines → IsSpelledBy piece line → IsGood setting lines line
    → new ≡ line ∷ lines
    → Accepts setting (piece ∷ older) new
accepts_line setting older None lines new line accepts spelled good added = absurd spelled
accepts_line setting older (Some bytes) lines new line accepts spelled good added =
    inr (line, lines, added, spelled, good, accepts)

-- the pieces so far and one more, as they are judged, the newest first
judged_push : (pieces : List LineText) (piece : LineText)
    → reverse (judged_so_far (pieces ++ piece ∷ []))
    ≡ judged_as (part_of pieces) piece ∷ reverse (judged_so_far pieces)
judged_push pieces piece =
    ap reverse (judged_append P.AtStart pieces (piece ∷ []))
    ∙ reverse-append (judged_so_far pieces) (judged_as (part_of pieces) piece ∷ [])

-- what is accepted stays so, and so does a reason
moved : (old new : CheckerState) (pieces : List LineText) (lines : List Line)
    → new.setting ≡ old.setting
    → Accepts old.setting pieces lines → Accepts new.setting pieces lines
moved old new pieces lines same accepts = subst (λ s. Accepts s pieces lines) (sym same) accepts

moved_reason : (old new : CheckerState) (lines : List Line) (piece : LineText) (reason : Reason)
    → new.setting ≡ old.setting
    → IsReason old.setting lines piece reason → IsReason new.setting lines piece reason
moved_reason old new lines piece reason same why = subst
    (λ s. IsReason s lines piece reason) (sym same) why

-- a checker that goes on, fed one more piece
module _ (old new : CheckerState) (pieces : List LineText) (piece : LineText)
    (same : new.setting ≡ old.setting) (stands : HasJudgedAt old S.Going pieces)
    (counted : new.fed ≡ old.fed + 1) (reached : new.part ≡ part_after old.part piece) where
  part_next : new.part ≡ part_of (pieces ++ piece ∷ [])
  part_next =
      reached ∙ (ap (λ part. part_after part piece) stands.1
      ∙ sym (part_append P.AtStart pieces (piece ∷ [])))

  going_next : Accepts old.setting (judged_as old.part piece ∷ reverse (judged_so_far pieces))
      new.lines → HasJudgedAt new S.Going (pieces ++ piece ∷ [])
  going_next accepts = (
    counted ∙ (ap (λ n. n + 1) stands.0 ∙ sym (length_push pieces piece)),
    part_next,
    subst (λ ps. Accepts new.setting ps new.lines) (sym (judged_push pieces piece))
        (subst (λ part. Accepts new.setting
        (judged_as part piece ∷ reverse (judged_so_far pieces)) new.lines) stands.1
        (moved old new (judged_as old.part piece ∷ reverse (judged_so_far pieces)) new.lines same
        accepts)),
  )

  stands_next : (fed : Fed) → IsFeedAnswer old.setting old.part old.lines new.lines piece fed
      → HasJudgedAt new (stop_after S.Going fed) (pieces ++ piece ∷ [])
  stands_next F.Marked accepted = going_next
      (subst (λ p. Accepts old.setting (p ∷ reverse (judged_so_far pieces)) new.lines)
      (sym (marked_empty old.part piece accepted.0))
      (accepts_next old.setting (reverse (judged_so_far pieces)) (Some []) old.lines new.lines
      stands.2 (inl refl, accepted.1)))
  stands_next F.Skipped accepted = going_next
      (subst (λ p. Accepts old.setting (p ∷ reverse (judged_so_far pieces)) new.lines)
      (sym (skipped_as_is old.part piece accepted.0 accepted.1))
      (accepts_next old.setting (reverse (judged_so_far pieces)) piece old.lines new.lines
      stands.2 (accepted.1, accepted.2)))
  stands_next F.Good (line, plain, spelled, good, added) = going_next
      (accepts_line old.setting (reverse (judged_so_far pieces)) (judged_as old.part piece)
      old.lines new.lines line stands.2 spelled good added)
  stands_next (F.Refused reason) accepted = (
    pieces,
    piece,
    [],
    refl,
    counted ∙ ap (λ n. n + 1) stands.0,
    part_next,
    moved old new (reverse (judged_so_far pieces)) new.lines same
        (subst (λ ls. Accepts old.setting (reverse (judged_so_far pieces)) ls)
        (sym accepted.2) stands.2),
    subst (λ part. IsReason new.setting new.lines (judged_as part piece) reason) stands.1
        (moved_reason old new new.lines (judged_as old.part piece) reason same
        (subst (λ ls. IsReason old.setting ls (judged_as old.part piece) reason)
        (sym accepted.2) accepted.1)),
  )
  stands_next F.Stopped accepted = absurd accepted

-- a new checker after one more piece, by what it keeps
pub stands_fed : (old new : CheckerState) (pieces : List LineText) (piece : LineText) (fed : Fed)
    → old.stop ≡ S.Going
    → new.setting ≡ old.setting → new.fed ≡ old.fed + 1
    → new.part ≡ part_after old.part piece → new.stop ≡ stop_after S.Going fed
    → IsFeedAnswer old.setting old.part old.lines new.lines piece fed → HasJudged old pieces
    → HasJudged new (pieces ++ piece ∷ [])
stands_fed old new pieces piece fed going same counted reached stop accepted stands =
    subst (λ s. HasJudgedAt new s (pieces ++ piece ∷ [])) (sym stop)
    (stands_next old new pieces piece same (subst (λ s. HasJudgedAt old s pieces) going stands)
    counted reached fed accepted)

-- what is said of a piece that is no mark, by how it is judged
pub feeds_on : (setting : Setting) (part : Part) (old new : List Line) (piece : LineText)
    (fed : Fed) → is_mark part piece ≡ false → IsPlainFeedAnswer setting old new (judged_as part
    piece) fed
    → IsFeedAnswer setting part old new piece fed
feeds_on setting part old new piece F.Marked plain takes = absurd takes
feeds_on setting part old new piece F.Skipped plain takes =
    (plain, passed_over part piece plain takes.0, takes.1)
feeds_on setting part old new piece F.Good plain (line, spelled, good, added) =
    (line, plain, spelled, good, added)
feeds_on setting part old new piece (F.Refused reason) plain takes = (plain, takes.0, takes.1)
feeds_on setting part old new piece F.Stopped plain takes = absurd takes

-- the end

missing_at : (fed : ℕ) (part : Part) (stop : Stop) → stop ≡ S.Going → part ≡ P.BeforeEnd
    → refusal_at fed part stop ≡ Some (record { place = fed + 1; reason = R.Grammar })
missing_at fed part stop going before =
    ap (λ p. refusal_at fed p stop) before ∙ ap (λ s. refusal_at fed P.BeforeEnd s) going

pub says_missing : (checker : CheckerState) → checker.stop ≡ S.Going
    → checker.part ≡ P.BeforeEnd → SaysAtEnd checker (E.Refused (checker.fed + 1))
says_missing checker going before =
    (R.Grammar, missing_at checker.fed checker.part checker.stop going before)

-- the same of the pieces that were fed

module _ (checker : CheckerState) (pieces : List LineText) (stands : HasJudged checker pieces) where
  going_stands : checker.stop ≡ S.Going → HasJudgedAt checker S.Going pieces
  going_stands going = subst (λ s. HasJudgedAt checker s pieces) going stands

  pub end_missing : checker.stop ≡ S.Going → checker.part ≡ P.BeforeEnd
      → SaysEnd checker pieces (E.Refused (checker.fed + 1))
  end_missing going before =
      let so_far = going_stands going in (
        R.Grammar,
        missing_at checker.fed checker.part checker.stop going before,
        record {
          front = judged_so_far pieces;
          bad = Some last_mark;
          rest = [];
          cut = ap (λ p. judged_so_far pieces ++ missing_end p) (sym so_far.1 ∙ before);
          counted = ap (λ n. n + 1)
              (so_far.0 ∙ sym (judged_length P.AtStart pieces));
          lines = checker.lines;
          accepted = so_far.2;
          reason_is = grammar_reason checker.setting checker.lines last_mark last_stays none_last;
        },
      )

  pub end_refused : (reason : Reason) → checker.stop ≡ S.Refused reason
      → SaysEnd checker pieces (E.Refused checker.fed)
  end_refused reason stopped =
      refused_so (subst (λ s. HasJudgedAt checker s pieces) stopped stands)
    where
      refused_so : HasJudgedAt checker (S.Refused reason) pieces
          → SaysEnd checker pieces (E.Refused checker.fed)
      refused_so (front, bad, rest, cut, counted, part, accepts, why) = (
        reason,
        ap (λ s. refusal_at checker.fed checker.part s) stopped,
        record {
          front = judged_so_far front;
          bad = judged_as (part_of front) bad;
          rest = judged_from (part_after (part_of front) bad) rest
              ++ missing_end (part_of pieces);
          cut =
              ap (λ ps. ps ++ missing_end (part_of pieces))
              (ap judged_so_far cut ∙ judged_append P.AtStart front (bad ∷ rest))
              ∙ append_assoc (judged_so_far front) (judged_from (part_of front) (bad ∷ rest))
              (missing_end (part_of pieces));
          counted = counted ∙ ap (λ n. n + 1) (sym (judged_length P.AtStart front));
          lines = checker.lines;
          accepted = accepts;
          reason_is = why;
        },
      )
