-- Literals, steps and leaves: each is what its line says, so it is one thing alone.
use Rattle.std.proofs.Common.{◌≡◌, ℕ, ◌<◌, ◌∙◌, Bool, true, false, List, Option, Some, refl, sym}
use Rattle.std.proofs.Common.{ap, subst, inl, inr}
use Rattle.std.proofs.lemmas.Option.{same_Some}
use Rattle.hv_lines.specs.Literals.{IsLiteral, IsPlainExpr, IsPlainSet}
use Rattle.hv_lines.specs.Numbering.{IsTable, expr_at, expr_count}
use Rattle.hv_lines.specs.Shapes.{IsLeaf, IsLiteralOf, IsStep, after_parts, before_parts}
use Rattle.hv_lines.specs.Shapes.{asked_step, alone, of_left, of_right}
use Rattle.hv_lines.specs.declared.line.Expr.{Expr}
use Rattle.hv_lines.specs.declared.line.Expr.TheVariants as E
use Rattle.hv_lines.specs.declared.line.Line.{Line}
use Rattle.hv_lines.specs.declared.line.Word.{Word}
use Rattle.hv_lines.specs.declared.line.Word.TheVariants as W
use Rattle.hv_lines.proofs.Laws.{expr_below}

-- a negation is no formula or constant
not_plain : (set : ℕ) → IsPlainExpr (E.Not set) → ⊥
not_plain set plain = elim plain [ inl formula ↦ formula | inr constant ↦ constant ]

after_plain : (expr : Expr) (p : ℕ × ℕ) → after_parts expr ≡ Some p → IsPlainExpr expr → ⊥
after_plain (E.After set acts) p is plain = elim plain
    [ inl formula ↦ formula | inr constant ↦ constant ]
after_plain _ p is plain = absurd (cc (is))

before_plain : (expr : Expr) (p : ℕ × ℕ) → before_parts expr ≡ Some p → IsPlainExpr expr → ⊥
before_plain (E.Before set acts) p is plain = elim plain
    [ inl formula ↦ formula | inr constant ↦ constant ]
before_plain _ p is plain = absurd (cc (is))

-- a step is no formula or constant, and no negation
step_plain : (word : Word) (expr : Expr) (p : ℕ × ℕ) → asked_step word expr ≡ Some p
    → IsPlainExpr expr → ⊥
step_plain W.B2 expr p is plain = after_plain expr p is plain
step_plain W.B3 expr p is plain = before_plain expr p is plain
step_plain _ expr p is plain = absurd (cc (is))

step_not : (word : Word) (set : ℕ) (p : ℕ × ℕ) → asked_step word (E.Not set) ≡ Some p → ⊥
step_not W.B2 set p is = cc (is)
step_not W.B3 set p is = cc (is)
step_not _ set p is = cc (is)

module _ (lines : List Line) where
  -- what is at an identifier is one thing
  expr_once : (set : ℕ) (x y : Expr) → expr_at lines set ≡ Some x → expr_at lines set ≡ Some y
      → x ≡ y
  expr_once set x y found other = cc (found, other)

  pub literal_from : (leaf set : ℕ) (sign : Bool) → IsLiteralOf lines leaf set sign
      → IsLiteral lines leaf
  literal_from leaf set true is = inl (subst (IsPlainSet lines) (sym is.0) is.1)
  literal_from leaf set false is = inr (set, is.0, is.1)

  -- a literal is that of one formula or constant, with one sign
  pub literal_once : (leaf x y : ℕ) (s t : Bool) → IsLiteralOf lines leaf x s
      → IsLiteralOf lines leaf y t → (x ≡ y) × (s ≡ t)
  literal_once leaf x y true true is other = (sym is.0 ∙ other.0, refl)
  literal_once leaf x y false false is other = (cc (is.0, other.0), refl)
  literal_once leaf x y true false is other =
      let plain : IsPlainSet lines leaf = subst (IsPlainSet lines) (sym is.0) is.1 in
      absurd (not_plain y (subst IsPlainExpr (expr_once leaf plain.0 (E.Not y) plain.1 other.0)
      plain.2))
  literal_once leaf x y false true is other =
      let plain : IsPlainSet lines leaf = subst (IsPlainSet lines) (sym other.0) other.1 in
      absurd (not_plain x (subst IsPlainExpr (expr_once leaf plain.0 (E.Not x) plain.1 is.0)
      plain.2))

  -- a literal is that of some formula or constant
  pub literal_to : (leaf : ℕ) → IsLiteral lines leaf
      → (set : ℕ) × (sign : Bool) × IsLiteralOf lines leaf set sign
  literal_to leaf (inl plain) = (leaf, true, (refl, plain))
  literal_to leaf (inr (set, at, plain)) = (set, false, (at, plain))

  -- a step is no literal
  pub step_no_literal : (word : Word) (leaf set acts : ℕ) → IsStep lines word leaf set acts
      → IsLiteral lines leaf → ⊥
  step_no_literal word leaf set acts step (inl plain) =
      step_plain word step.0 (set, acts) step.2
      (subst IsPlainExpr (expr_once leaf plain.0 step.0 plain.1 step.1) plain.2)
  step_no_literal word leaf set acts step (inr (inner, at, plain)) =
      step_not word inner (set, acts)
      (subst (λ x. asked_step word x ≡ Some (set, acts))
      (expr_once leaf step.0 (E.Not inner) step.1 at) step.2)

  -- a step has one set and one action set
  pub step_once : (word : Word) (leaf set acts other by : ℕ) → IsStep lines word leaf set acts
      → IsStep lines word leaf other by
      → (set ≡ other) × (acts ≡ by)
  step_once word leaf set acts other by step also =
      let same : step.0 ≡ also.0 = expr_once leaf step.0 also.0 step.1 also.1 in
      let is : asked_step word also.0 ≡ Some (set, acts) = subst
      (λ x. asked_step word x ≡ Some (set, acts)) same step.2 in
      let both : (set, acts) ≡ (other, by) = same_Some (set, acts) (other, by) (sym is ∙ also.2) in
      (ap (λ p. p.0) both, ap (λ p. p.1) both)

  -- a leaf has a line
  pub leaf_below : (parts : Expr → Option (ℕ × ℕ)) (set leaf : ℕ) → IsTable lines
      → IsLeaf parts lines set leaf → leaf < expr_count lines
  leaf_below parts _ _ table (alone set x at none) = expr_below lines set x table at
  leaf_below parts _ _ table (of_left set left right leaf x at has of) = leaf_below parts left leaf
      table of
  leaf_below parts _ _ table (of_right set left right leaf x at has of) = leaf_below parts right
      leaf table of
