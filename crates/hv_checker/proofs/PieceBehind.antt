-- What is said of one piece behind the line `end` of a closed proof.
use Rattle.std.proofs.Common.{◌≡◌, ◌↔◌, ◌==◌, ◌∙◌, ℕ, Bool, List, [], ◌∷◌, None, Some, cond}
use Rattle.std.proofs.Common.{false, inl, inr, refl, subst, sym, true}
use Rattle.std.proofs.lemmas.Bool.Decides.{Decides-eqb}
use Rattle.hv_lines.specs.Judged.{IsPassedOver, IsReason, IsShownBy, LineText, Passes}
use Rattle.hv_lines.specs.Setting.{Setting}
use Rattle.hv_lines.specs.Spelling.{Spells}
use Rattle.hv_lines.specs.Versions.{judged_as, last_mark, line_behind}
use Rattle.hv_lines.specs.declared.line.Line.{Line}
use Rattle.hv_lines.specs.declared.part.Part.TheVariants as P
use Rattle.hv_lines.specs.declared.reason.Reason.{Reason}
use Rattle.hv_lines.proofs.Reasons.{no_reason, reason_once}
use Rattle.hv_lines.proofs.Versions.{none_last, skipped_as_is}
use Rattle.hv_proof_text.proofs.LineFields.{skipped_apart}
use Rattle.hv_checker.specs.PieceVerdicts.{IsFeedAnswer, IsSpelledBy}
use Rattle.hv_checker.specs.Versions.{IsFedBehind, reason_behind}
use Rattle.hv_checker.specs.declared.piece.Fed.{Fed}
use Rattle.hv_checker.specs.declared.piece.Fed.TheVariants as F
use Rattle.hv_checker.proofs.OneJudgement.{shown_once, skipped_passes}
use Rattle.hv_checker.proofs.TwoVersions.{as_it_is, behind_plain, behind_why, no_clash}

-- it spells no line

none_by : (comment : Bool) (byte : ℕ) (bytes : List ℕ) (line : Line) → (byte == 35) ≡ comment
    → Spells line (cond comment (byte ∷ bytes) last_mark) → ⊥
none_by true byte bytes line is spells =
    skipped_apart line (byte ∷ bytes) spells (inr ((Decides-eqb byte 35).0 is))
none_by false byte bytes line is spells = none_last line spells

none_spelled : (bytes : List ℕ) (line : Line) → Spells line (line_behind bytes) → ⊥
none_spelled [] line spells = skipped_apart line [] spells (inl refl)
none_spelled (byte ∷ bytes) line spells = none_by (byte == 35) byte bytes line refl spells

none_behind : (piece : LineText) (line : Line) → IsSpelledBy (judged_as P.PastEnd piece) line → ⊥
none_behind None line spelled = spelled
none_behind (Some bytes) line spelled = none_spelled bytes line spelled

module _ (setting : Setting) (lines : List Line) where
  -- what is skipped isn't refused
  not_skipped : (piece : LineText) (reason : Reason) → IsReason setting lines piece reason
      → IsPassedOver piece → ⊥
  not_skipped None reason why quiet = quiet
  not_skipped (Some bytes) reason why quiet =
      let piece : LineText = Some bytes in
      no_reason (Passes setting lines piece) (IsShownBy setting lines piece) reason why
      (skipped_passes setting lines bytes quiet)

  module _ (piece : LineText) (reason : Reason)
      (why : IsReason setting lines (judged_as P.PastEnd piece) reason) where
    loud : IsPassedOver piece → ⊥
    loud quiet =
        let same = skipped_as_is P.PastEnd piece refl quiet in
        not_skipped piece reason (subst (λ p. IsReason setting lines p reason) same why) quiet

    -- it is refused for one reason
    its_reason : reason ≡ reason_behind piece
    its_reason =
        let judged = judged_as P.PastEnd piece in
        let last = reason_behind piece in
        no_clash reason last (behind_plain piece)
        (reason_once (Passes setting lines judged) (IsShownBy setting lines judged)
        (shown_once setting lines judged) reason last why (behind_why setting piece loud lines)
        ∙ as_it_is last (behind_plain piece))

  module _ (new : List Line) (piece : LineText) where
    told_behind : (fed : Fed) → IsFeedAnswer setting P.PastEnd lines new piece fed
        → IsFedBehind piece fed × (new ≡ lines)
    told_behind F.Marked (marked, same) = absurd (cc)
    told_behind F.Skipped (plain, quiet, same) = (quiet, same)
    told_behind F.Good (line, plain, spelled, good, added) = absurd (none_behind piece line spelled)
    told_behind (F.Refused reason) (plain, why, same) =
        ((loud piece reason why, its_reason piece reason why), same)
    told_behind F.Stopped told = absurd told

    fed_behind : (fed : Fed) → IsFedBehind piece fed × (new ≡ lines)
        → IsFeedAnswer setting P.PastEnd lines new piece fed
    fed_behind F.Marked told = absurd told.0
    fed_behind F.Skipped told = (refl, told.0, told.1)
    fed_behind F.Good told = absurd told.0
    fed_behind (F.Refused reason) told = (
      refl,
      subst (λ r. IsReason setting lines (judged_as P.PastEnd piece) r) (sym told.0.1)
          (behind_why setting piece told.0.0 lines),
      told.1,
    )
    fed_behind F.Stopped told = absurd told.0

pub piece_behind : (setting : Setting) (old new : List Line) (piece : LineText) (fed : Fed)
    → IsFeedAnswer setting P.PastEnd old new piece fed ↔ (IsFedBehind piece fed × (new ≡ old))
piece_behind setting old new piece fed =
    (told_behind setting old new piece fed, fed_behind setting old new piece fed)
