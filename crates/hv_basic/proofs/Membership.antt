-- What holds before a place and there holds before the next; and the step.
use Rattle.std.proofs.Common.{◌≡◌, ℕ, ◌<◌, ◌+◌, ◌∙◌, ◌↔◌, List, Some, length, get_or, sym, ap}
use Rattle.std.proofs.Common.{subst, inl, inr, arith}
use Rattle.std.proofs.lemmas.Bool.{cases_lt}
use Rattle.std.proofs.lemmas.List.{get_or_default}
use Rattle.std.proofs.lemmas.Option.{same_Some, unwrap_or-slice_get}
use Rattle.std.specs.List.{Contains, slice_get}
use Rattle.std.specs.Option.{unwrap_or}
use Rattle.hv_lines.specs.Literals.{IsLiteral}
use Rattle.hv_lines.specs.Numbering.{ExprRefersBelow}
use Rattle.hv_lines.specs.Shapes.{IsAndLeaf, IsStep, after_parts, asked_step, before_parts}
use Rattle.hv_lines.specs.declared.line.Expr.{Expr}
use Rattle.hv_lines.specs.declared.line.Expr.TheVariants as E
use Rattle.hv_lines.specs.declared.line.Line.{Line}
use Rattle.hv_lines.specs.declared.line.Word.{Word}
use Rattle.hv_lines.specs.declared.line.Word.TheVariants as W
use Rattle.hv_lines.proofs.Shaped.{step_once}
use Rattle.hv_basic.specs.Working.Gathered.{IsLiteralStep}

-- what holds at the places before one and there holds before the next
module _ {X : Type 0} (P : X → Type 0) (xs : List X) (i : ℕ) (within : i < length xs) where
  pub more : ((k : ℕ) (d : X) → k < i → P (get_or xs k d)) → (e : X) → P (get_or xs i e)
      → (k : ℕ) (d : X) → k < i + 1 → P (get_or xs k d)
  more before e here k d below =
      elim (cases_lt k i) [
        | inl less ↦ before k d less
        | inr upto ↦
            let same : i ≡ k = omega (arith, upto, below) in
            subst (λ j. P (get_or xs j d)) same (subst P (get_or_default xs i e d within) here)
      ]

-- the step

-- the step has a leaf that is no literal
pub inner_fails : (lines : List Line) (word : Word) (leaf set acts : ℕ) (inner : List ℕ)
    → IsStep lines word leaf set acts
    → ((l : ℕ) → Contains inner l ↔ IsAndLeaf lines set l) → (other : ℕ)
    → Contains inner other → (IsLiteral lines other → ⊥) → (others by : ℕ)
    → IsLiteralStep lines word leaf others by → ⊥
inner_fails lines word leaf set acts inner step are other has out others by (is, all) =
    let same : set ≡ others = (step_once lines word leaf set acts others by step is).0 in
    out (all other (subst (λ s. IsAndLeaf lines s other) same ((are other).0 has)))

-- a step refers to earlier lines

after_refers : (a e : ℕ) (expr : Expr) (p : ℕ × ℕ) → after_parts expr ≡ Some p
    → ExprRefersBelow a e expr → (p.0 < e) × (p.1 < a)
after_refers a e (E.After x y) p is refers = subst
    (λ (q : ℕ × ℕ). (q.0 < e) × (q.1 < a)) (same_Some (x, y) p is) refers
after_refers a e _ p is refers = absurd (cc (is))

before_refers : (a e : ℕ) (expr : Expr) (p : ℕ × ℕ) → before_parts expr ≡ Some p
    → ExprRefersBelow a e expr → (p.0 < e) × (p.1 < a)
before_refers a e (E.Before x y) p is refers = subst
    (λ (q : ℕ × ℕ). (q.0 < e) × (q.1 < a)) (same_Some (x, y) p is) refers
before_refers a e _ p is refers = absurd (cc (is))

pub step_refers : (a e : ℕ) (word : Word) (expr : Expr) (p : ℕ × ℕ) → Some p ≡ asked_step word expr
    → ExprRefersBelow a e expr
    → (p.0 < e) × (p.1 < a)
step_refers a e W.B2 expr p is refers = after_refers a e expr p (sym is) refers
step_refers a e W.B3 expr p is refers = before_refers a e expr p (sym is) refers
step_refers a e _ expr p is refers = absurd (cc (is))

-- what a list gives at a place is what is there
pub at_place : {A : Type 0} (xs : List A) (place : ℕ) (d x : A) → slice_get xs place ≡ Some x
    → x ≡ get_or xs place d
at_place xs place d x is = ap (λ o. unwrap_or o d) (sym is) ∙ unwrap_or-slice_get xs place d
