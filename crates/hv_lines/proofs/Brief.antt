-- The lines of a good draft whose spelling has at most so many bytes: claims and the sets that are
-- made of earlier ones have few.
use Rattle.std.proofs.Common.{◌≡◌, ℕ, ◌≤◌, ◌⊎◌, List, [], ◌∷◌, length, sym, subst, inl, inr, arith}
use Rattle.std.proofs.lemmas.List.Elements.{All-cons, All-nil}
use Rattle.std.specs.List.{All}
use Rattle.hv_task.specs.Strips.{Strips}
use Rattle.hv_lines.specs.Drafts.{IsGoodTable, draft_setting}
use Rattle.hv_lines.specs.Order as O
use Rattle.hv_lines.specs.Spelling.{ExprFits, FitsDecimal, fields_of, spelling_of}
use Rattle.hv_lines.specs.declared.line.Acts.{Acts}
use Rattle.hv_lines.specs.declared.line.Acts.TheVariants as A
use Rattle.hv_lines.specs.declared.line.Expr.{Expr}
use Rattle.hv_lines.specs.declared.line.Line.{Line}
use Rattle.hv_lines.specs.declared.line.Line.TheVariants as L
use Rattle.hv_lines.proofs.Lengths.{decimal_short, length-join, weight}
use Rattle.hv_lines.proofs.Nexts.{IsMade, light_claim, light_made}

module _ (task : Strips) (most : ℕ) (room : 200 ≤ most) where
  abbrev Brief : Line → Type 0
  Brief line = length (spelling_of line) ≤ most

  -- the sets of actions are that of all, and each set of states is made of earlier ones, or its
  -- fields are short
  abbrev pub AreLight : List Line → Type 0
  AreLight [] = Unit {0}
  AreLight (L.Acts id acts ∷ older) = (acts ≡ A.All) × AreLight older
  AreLight (L.Expr id expr ∷ older) = (IsMade expr ⊎ (weight (fields_of (L.Expr id expr)) ≤ most))
      × AreLight older
  AreLight (L.Known id statement word premises ∷ older) = AreLight older

  brief_by : (line : Line) → weight (fields_of line) ≤ most → Brief line
  brief_by line small = omega (arith, length-join (fields_of line), small)

  brief_acts : (id : ℕ) (acts : Acts) → acts ≡ A.All → FitsDecimal id → Brief (L.Acts id acts)
  brief_acts id acts all at =
      subst (λ a. Brief (L.Acts id a)) (sym all)
      (brief_by (L.Acts id A.All) (omega (arith, decimal_short id at, room)))

  brief_expr : (id : ℕ) (expr : Expr) → IsMade expr ⊎ (weight (fields_of (L.Expr id expr)) ≤ most)
      → FitsDecimal id → ExprFits expr
      → Brief (L.Expr id expr)
  brief_expr id expr (inl made) at fits = brief_by (L.Expr id expr)
      (omega (arith, light_made id expr made at fits, room))
  brief_expr id expr (inr small) at fits = brief_by (L.Expr id expr) small

  pub all_brief : (lines : List Line) → IsGoodTable task lines → AreLight lines → All Brief lines
  all_brief [] good light = All-nil Brief
  all_brief (L.Acts id acts ∷ older) good light =
      let spelled = good.0.good O.Spelling in
      All-cons Brief (L.Acts id acts) older (brief_acts id acts light.0 spelled.0)
      (all_brief older good.1 light.1)
  all_brief (L.Expr id expr ∷ older) good light =
      let spelled = good.0.good O.Spelling in
      All-cons Brief (L.Expr id expr) older (brief_expr id expr light.0 spelled.0 spelled.1)
      (all_brief older good.1 light.1)
  all_brief (L.Known id statement word premises ∷ older) good light =
      All-cons Brief (L.Known id statement word premises) older
      (brief_by (L.Known id statement word premises)
      (omega (
        arith,
        light_claim (draft_setting task) older id statement word premises good.0.good,
        room,
      )))
      (all_brief older good.1 light)
