-- Working definitions beside those of `PieceVerdicts`: for private contracts and proofs.
use Rattle.std.specs.Prelude.{◌≡◌, List, ◌∷◌, Option, Some, None}
use Rattle.hv_lines.specs.Good.{IsGood}
use Rattle.hv_lines.specs.Working.Good.{IsReasonOf}
use Rattle.hv_lines.specs.Judged.{LineText, IsPassedOver, IsReason}
use Rattle.hv_lines.specs.Setting.{Setting}
use Rattle.hv_lines.specs.Shapes.{HasShape}
use Rattle.hv_lines.specs.Verdicts.{IsVerdict}
use Rattle.hv_lines.specs.declared.line.Line.{Line}
use Rattle.hv_lines.specs.declared.line.Statement.{Statement}
use Rattle.hv_lines.specs.declared.line.Word.{Word}
use Rattle.hv_lines.specs.declared.reason.Reason.{Reason}
use Rattle.hv_lines.specs.declared.reason.Reason.TheVariants as R
use Rattle.hv_lines.specs.declared.verdict.Verdict.{Verdict}
use Rattle.hv_lines.specs.declared.verdict.Verdict.TheVariants as V
use Rattle.hv_checker.specs.PieceVerdicts.{IsSpelledBy}
use Rattle.hv_checker.specs.declared.piece.Fed.{Fed}
use Rattle.hv_checker.specs.declared.piece.Fed.TheVariants as F

-- what the answer to a piece that is judged as it is says of the accepted lines before and after
abbrev pub IsPlainFeedAnswer : Setting → List Line → List Line → LineText → Fed → Type 0
IsPlainFeedAnswer setting old new piece F.Marked = ⊥
IsPlainFeedAnswer setting old new piece F.Skipped = IsPassedOver piece × (new ≡ old)
IsPlainFeedAnswer setting old new piece F.Good =
    (line : Line) × IsSpelledBy piece line × IsGood setting old line × (new ≡ line ∷ old)
IsPlainFeedAnswer setting old new piece (F.Refused reason) = IsReason setting old piece reason ×
    (new ≡ old)
IsPlainFeedAnswer setting old new piece F.Stopped = ⊥

-- what is found of a line that has a spelling: nothing where it is good, or the reason why it isn't
abbrev pub IsLineFault : Setting → List Line → Line → Option Reason → Type 0
IsLineFault setting lines line None = IsGood setting lines line
IsLineFault setting lines line (Some reason) = IsReasonOf setting lines line reason

-- what is found of a basic statement with its word: nothing where it is true, or the reason by its
-- shape or by its verdict
abbrev pub IsBasicFault : Setting → List Line → Statement → Word → Option Reason → Type 0
IsBasicFault setting lines statement word None = IsVerdict setting lines statement word V.True
IsBasicFault setting lines statement word (Some R.Shape) = HasShape lines statement word → ⊥
IsBasicFault setting lines statement word (Some R.NotOffered) =
    IsVerdict setting lines statement word V.NotOffered
IsBasicFault setting lines statement word (Some R.Budget) =
    IsVerdict setting lines statement word V.Over
IsBasicFault setting lines statement word (Some (R.False clash)) =
    IsVerdict setting lines statement word (V.False clash)
IsBasicFault setting lines statement word (Some _) = ⊥

-- the reason that a verdict gives, if it gives one
abbrev pub fault_by : Verdict → Option Reason
fault_by V.True = None
fault_by (V.False clash) = Some (R.False clash)
fault_by V.Over = Some R.Budget
fault_by V.NotOffered = Some R.NotOffered
