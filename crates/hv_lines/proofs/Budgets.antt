-- Lines without a basic statement are good by each budget, where they are by one.
use Rattle.std.proofs.Common.{ℕ, ◌⊎◌, List, [], ◌∷◌, inl, inr}
use Rattle.hv_lines.specs.Good.{AreGood, IsBasicWord, IsGood}
use Rattle.hv_lines.specs.Order as O
use Rattle.hv_lines.specs.Setting.{Setting, setting_of}
use Rattle.hv_lines.specs.declared.line.Acts.{Acts}
use Rattle.hv_lines.specs.declared.line.Expr.{Expr}
use Rattle.hv_lines.specs.declared.line.Line.{Line}
use Rattle.hv_lines.specs.declared.line.Line.TheVariants as L
use Rattle.hv_lines.specs.declared.line.Statement.{Statement}
use Rattle.hv_lines.specs.declared.line.Word.{Word}

module _ (setting : Setting) (budget : ℕ) where
  abbrev other : Setting
  other = setting_of setting.task setting.nodes budget

  other_acts : (older : List Line) (id : ℕ) (acts : Acts) → IsGood setting older (L.Acts id acts)
      → IsGood other older (L.Acts id acts)
  other_acts older id acts good O.Length = tt
  other_acts older id acts good O.Spelling = good O.Spelling
  other_acts older id acts good O.Number = good O.Number
  other_acts older id acts good O.Reference = good O.Reference
  other_acts older id acts good O.Family = tt
  other_acts older id acts good O.Rule = tt
  other_acts older id acts good O.Shape = tt
  other_acts older id acts good O.Offered = tt
  other_acts older id acts good O.Budget = tt
  other_acts older id acts good O.Truth = tt

  other_expr : (older : List Line) (id : ℕ) (expr : Expr) → IsGood setting older (L.Expr id expr)
      → IsGood other older (L.Expr id expr)
  other_expr older id expr good O.Length = tt
  other_expr older id expr good O.Spelling = good O.Spelling
  other_expr older id expr good O.Number = good O.Number
  other_expr older id expr good O.Reference = good O.Reference
  other_expr older id expr good O.Family = good O.Family
  other_expr older id expr good O.Rule = tt
  other_expr older id expr good O.Shape = tt
  other_expr older id expr good O.Offered = tt
  other_expr older id expr good O.Budget = tt
  other_expr older id expr good O.Truth = tt

  other_known : (older : List Line) (id : ℕ) (statement : Statement) (word : Word)
      (premises : List ℕ) → (IsBasicWord word → ⊥)
      → IsGood setting older (L.Known id statement word premises)
      → IsGood other older (L.Known id statement word premises)
  other_known older id statement word premises out good O.Length = tt
  other_known older id statement word premises out good O.Spelling = good O.Spelling
  other_known older id statement word premises out good O.Number = good O.Number
  other_known older id statement word premises out good O.Reference = good O.Reference
  other_known older id statement word premises out good O.Family = tt
  other_known older id statement word premises out good O.Rule = good O.Rule
  other_known older id statement word premises out good O.Shape = λ basic. absurd (out basic)
  other_known older id statement word premises out good O.Offered = λ basic. absurd (out basic)
  other_known older id statement word premises out good O.Budget = λ basic. absurd (out basic)
  other_known older id statement word premises out good O.Truth = λ basic. absurd (out basic)

  -- each line that claims something does so by no basic word, or is good by the other budget
  abbrev pub AreSettled : List Line → Type 0
  AreSettled [] = Unit {0}
  AreSettled (L.Acts id acts ∷ older) = AreSettled older
  AreSettled (L.Expr id expr ∷ older) = AreSettled older
  AreSettled (L.Known id statement word premises ∷ older) =
      ((IsBasicWord word → ⊥) ⊎ IsGood other older (L.Known id statement word premises))
      × AreSettled older

  either_known : (older : List Line) (id : ℕ) (statement : Statement) (word : Word)
      (premises : List ℕ)
      → (IsBasicWord word → ⊥) ⊎ IsGood other older (L.Known id statement word premises)
      → IsGood setting older (L.Known id statement word premises)
      → IsGood other older (L.Known id statement word premises)
  either_known older id statement word premises (inl out) good = other_known older id statement word
      premises out good
  either_known older id statement word premises (inr is) good = is

  pub all_other : (lines : List Line) → AreGood setting lines → AreSettled lines
      → AreGood other lines
  all_other [] good settled = tt
  all_other (L.Acts id acts ∷ older) good settled =
      (other_acts older id acts good.0, all_other older good.1 settled)
  all_other (L.Expr id expr ∷ older) good settled =
      (other_expr older id expr good.0, all_other older good.1 settled)
  all_other (L.Known id statement word premises ∷ older) good settled = (
    either_known older id statement word premises settled.0 good.0,
    all_other older good.1
        settled.1,
  )
