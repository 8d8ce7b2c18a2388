-- What is found of a line that passes the tests of its form and its numbers.
use Rattle.std.proofs.Common.{◌≡◌, ℕ, List, Option, Some, None, subst, sym}
use Rattle.hv_lines.specs.Good.{IsBasicWord, IsRuleWord}
use Rattle.hv_lines.specs.Working.Good.{IsFormed}
use Rattle.hv_lines.specs.Rules.{Fits}
use Rattle.hv_lines.specs.Setting.{Setting}
use Rattle.hv_lines.specs.Verdicts.{IsVerdict}
use Rattle.hv_lines.specs.declared.line.Acts.{Acts}
use Rattle.hv_lines.specs.declared.line.Expr.{Expr}
use Rattle.hv_lines.specs.declared.line.Line.{Line}
use Rattle.hv_lines.specs.declared.line.Line.TheVariants as L
use Rattle.hv_lines.specs.declared.line.Statement.{Statement}
use Rattle.hv_lines.specs.declared.line.Word.{Word}
use Rattle.hv_lines.specs.declared.line.Word.TheVariants as W
use Rattle.hv_lines.specs.declared.reason.Reason.{Reason}
use Rattle.hv_lines.specs.declared.reason.Reason.TheVariants as R
use Rattle.hv_lines.specs.declared.verdict.Verdict.{Verdict}
use Rattle.hv_lines.specs.declared.verdict.Verdict.TheVariants as V
use Rattle.hv_lines.proofs.Judging.{for_budget, for_offered, for_truth, good_basic}
use Rattle.hv_lines.proofs.Reasons.{for_rule, for_shape, good_line}
use Rattle.hv_checker.specs.Working.PieceVerdicts.{IsBasicFault, IsLineFault, fault_by}

-- a word is either that of a rule or that of a basic statement
pub words_apart : (word : Word) → IsRuleWord word → IsBasicWord word → ⊥
words_apart W.B1 rule basic = rule
words_apart W.B2 rule basic = rule
words_apart W.B3 rule basic = rule
words_apart W.B4 rule basic = rule
words_apart W.B5 rule basic = rule
words_apart _ rule basic = basic

pub basic_word : (word : Word) → (IsRuleWord word → ⊥) → IsBasicWord word
basic_word W.B1 none = tt
basic_word W.B2 none = tt
basic_word W.B3 none = tt
basic_word W.B4 none = tt
basic_word W.B5 none = tt
basic_word _ none = absurd (none tt)

-- by the verdict of the statement
pub by_verdict : (setting : Setting) (lines : List Line) (statement : Statement) (word : Word)
    (verdict : Verdict)
    → IsVerdict setting lines statement word verdict
    → IsBasicFault setting lines statement word (fault_by verdict)
by_verdict setting lines statement word V.True is = is
by_verdict setting lines statement word (V.False clash) is = is
by_verdict setting lines statement word V.Over is = is
by_verdict setting lines statement word V.NotOffered is = is

module _ (setting : Setting) (lines : List Line) where
  acts_are_good : (id : ℕ) (acts : Acts) → IsFormed setting lines (L.Acts id acts)
      → IsLineFault setting lines (L.Acts id acts) None
  acts_are_good id acts formed = good_line setting lines (L.Acts id acts) formed tt tt tt tt tt

  pub good_acts : (line : Line) (id : ℕ) (acts : Acts) → line ≡ L.Acts id acts
      → IsFormed setting lines line
      → IsLineFault setting lines line None
  good_acts line id acts is formed =
      subst (λ l. IsLineFault setting lines l None) (sym is)
      (acts_are_good id acts (subst (IsFormed setting lines) is formed))

  expr_is_good : (id : ℕ) (expr : Expr) → IsFormed setting lines (L.Expr id expr)
      → IsLineFault setting lines (L.Expr id expr) None
  expr_is_good id expr formed = good_line setting lines (L.Expr id expr) formed tt tt tt tt tt

  pub good_expr : (line : Line) (id : ℕ) (expr : Expr) → line ≡ L.Expr id expr
      → IsFormed setting lines line
      → IsLineFault setting lines line None
  good_expr line id expr is formed =
      subst (λ l. IsLineFault setting lines l None) (sym is)
      (expr_is_good id expr (subst (IsFormed setting lines) is formed))

  module _ (id : ℕ) (statement : Statement) (word : Word) (premises : List ℕ)
      (formed : IsFormed setting lines (L.Known id statement word premises)) where
    rule_is_good : IsRuleWord word → Fits lines statement word premises
        → IsLineFault setting lines (L.Known id statement word premises) None
    rule_is_good rule fits =
        good_line setting lines (L.Known id statement word premises) formed (λ on. fits)
        (λ on. absurd (words_apart word rule on))
        (λ on. absurd (words_apart word rule on)) (λ on. absurd (words_apart word rule on))
        (λ on. absurd (words_apart word rule on))

    rule_is_fault : IsRuleWord word → (Fits lines statement word premises → ⊥)
        → IsLineFault setting lines (L.Known id statement word premises) (Some R.Rule)
    rule_is_fault rule none =
        for_rule setting lines (L.Known id statement word premises) formed
        (λ holds. none (holds rule))

    basic_is_fault : (rule : IsRuleWord word → ⊥) (fault : Option Reason)
        → IsBasicFault setting lines statement word fault
        → IsLineFault setting lines (L.Known id statement word premises) fault
    basic_is_fault rule None is =
        good_basic setting lines id statement word premises formed
        (λ on. absurd (rule on)) (basic_word word rule) is
    basic_is_fault rule (Some R.Shape) is =
        for_shape setting lines (L.Known id statement word premises) formed (λ on. absurd (rule on))
        (λ holds. is (holds (basic_word word rule)))
    basic_is_fault rule (Some R.NotOffered) is =
        for_offered setting lines id statement word premises formed
        (λ on. absurd (rule on)) (basic_word word rule) is
    basic_is_fault rule (Some R.Budget) is =
        for_budget setting lines id statement word premises formed
        (λ on. absurd (rule on)) (basic_word word rule) is
    basic_is_fault rule (Some (R.False clash)) is =
        for_truth setting lines id statement word premises formed
        (λ on. absurd (rule on)) (basic_word word rule) clash is
    basic_is_fault rule (Some _) is = absurd is

  module _ (line : Line) (id : ℕ) (statement : Statement) (word : Word) (premises : List ℕ)
      (is : line ≡ L.Known id statement word premises) (formed : IsFormed setting lines line) where
    pub good_rule : IsRuleWord word → Fits lines statement word premises
        → IsLineFault setting lines line None
    good_rule rule fits =
        subst (λ l. IsLineFault setting lines l None) (sym is)
        (rule_is_good id statement word premises (subst (IsFormed setting lines) is formed) rule
        fits)

    pub fault_of_rule : IsRuleWord word → (Fits lines statement word premises → ⊥)
        → IsLineFault setting lines line (Some R.Rule)
    fault_of_rule rule none =
        subst (λ l. IsLineFault setting lines l (Some R.Rule)) (sym is)
        (rule_is_fault id statement word premises (subst (IsFormed setting lines) is formed) rule
        none)

    pub fault_of_basic : (rule : IsRuleWord word → ⊥) (fault : Option Reason)
        → IsBasicFault setting lines statement word fault
        → IsLineFault setting lines line fault
    fault_of_basic rule fault found =
        subst (λ l. IsLineFault setting lines l fault) (sym is)
        (basic_is_fault id statement word premises (subst (IsFormed setting lines) is formed) rule
        fault found)
