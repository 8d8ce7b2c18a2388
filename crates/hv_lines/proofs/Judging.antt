-- A line that is justified by a basic statement: its reason, or that it is good, by its verdict.
use Rattle.std.proofs.Common.{ℕ, List, refl}
use Rattle.hv_lines.specs.Good.{HasNotVerdict, IsBasicWord, IsGood, RuleHolds, WhereBasic}
use Rattle.hv_lines.specs.Working.Good.{IsFormed, IsReasonOf}
use Rattle.hv_lines.specs.Order as O
use Rattle.hv_lines.specs.Setting.{Setting}
use Rattle.hv_lines.specs.Shapes.{HasShape}
use Rattle.hv_lines.specs.Verdicts.{IsVerdict}
use Rattle.hv_lines.specs.declared.line.Line.{Line}
use Rattle.hv_lines.specs.declared.line.Line.TheVariants as L
use Rattle.hv_lines.specs.declared.line.Statement.{Statement}
use Rattle.hv_lines.specs.declared.line.Word.{Word}
use Rattle.hv_lines.specs.declared.reason.Clash.{Clash}
use Rattle.hv_lines.specs.declared.reason.Reason.TheVariants as R
use Rattle.hv_lines.specs.declared.verdict.Verdict.{Verdict}
use Rattle.hv_lines.specs.declared.verdict.Verdict.TheVariants as V
use Rattle.hv_lines.proofs.Reasons.{good_line, upto_budget, upto_offered, upto_truth}
use Rattle.hv_lines.proofs.Verdicts.{IsSame, verdict_once}

module _ (setting : Setting) (lines : List Line) (id : ℕ) (statement : Statement) (word : Word)
    (premises : List ℕ)
    (formed : IsFormed setting lines (L.Known id statement word premises))
    (rule : RuleHolds lines (L.Known id statement word premises)) (basic : IsBasicWord word) where
  abbrev It : Line
  It = L.Known id statement word premises

  -- a statement with a verdict has its shape, and no other verdict
  shaped : (verdict : Verdict) → IsVerdict setting lines statement word verdict
      → WhereBasic (HasShape lines) It
  shaped verdict is = λ on. (is.0, is.1)

  not_other : (verdict other : Verdict) → IsVerdict setting lines statement word verdict
      → (IsSame verdict other → ⊥)
      → WhereBasic (HasNotVerdict setting lines other) It
  not_other verdict other is apart = λ on also. apart
      (verdict_once setting lines statement word verdict other is also)

  pub for_offered : IsVerdict setting lines statement word V.NotOffered
      → IsReasonOf setting lines It R.NotOffered
  for_offered is = (
    O.Offered,
    refl,
    λ passed. passed basic is,
    upto_offered setting lines It formed
        rule (shaped V.NotOffered is),
  )

  pub for_budget : IsVerdict setting lines statement word V.Over
      → IsReasonOf setting lines It R.Budget
  for_budget is = (
    O.Budget,
    refl,
    λ passed. passed basic is,
    upto_budget setting lines It formed rule (shaped V.Over is)
        (not_other V.Over V.NotOffered is (λ same. same)),
  )

  pub for_truth : (clash : Clash) → IsVerdict setting lines statement word (V.False clash)
      → IsReasonOf setting lines It (R.False clash)
  for_truth clash is = (
    O.Truth,
    (clash, refl, is),
    λ passed. verdict_once setting lines statement word V.True (V.False clash) (passed basic) is,
    upto_truth setting lines It formed rule (shaped (V.False clash) is)
        (not_other (V.False clash) V.NotOffered is (λ same. same))
        (not_other (V.False clash) V.Over is (λ same. same)),
  )

  pub good_basic : IsVerdict setting lines statement word V.True → IsGood setting lines It
  good_basic is =
      good_line setting lines It formed rule (shaped V.True is)
      (not_other V.True V.NotOffered is (λ same. same))
      (not_other V.True V.Over is (λ same. same)) (λ on. is)
