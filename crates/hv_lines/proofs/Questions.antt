-- A statement with its word asks one question, and has one verdict.
use Rattle.std.proofs.Common.{◌≡◌, ℕ, ◌∙◌, List, Option, Some, None, refl, sym, ap, subst, inl, inr}
use Rattle.std.proofs.lemmas.Option.{same_Some}
use Rattle.hv_lines.specs.Shapes.{HasSides, IsFamilyOf, IsOfFamily, IsQuestion, IsStep}
use Rattle.hv_lines.specs.Shapes.{IsWithinFamily, QuestionState, family_of, asked_step}
use Rattle.hv_lines.specs.declared.formula_family.FormulaFamily.{FormulaFamily}
use Rattle.hv_lines.specs.declared.line.Line.{Line}
use Rattle.hv_lines.specs.declared.line.Word.{Word}
use Rattle.hv_lines.specs.declared.line.Word.TheVariants as W
use Rattle.hv_lines.proofs.Rising.{rising_once}
use Rattle.hv_lines.proofs.Shaped.{step_no_literal, step_once}

module _ (lines : List Line) (word : Word) (left right : ℕ) where
  -- `b1` asks for no step
  pub alone_no_step : (leaf set acts : ℕ) → word ≡ W.B1 → IsStep lines word leaf set acts → ⊥
  alone_no_step leaf set acts is step =
      let none : asked_step W.B1 step.0 ≡ Some (set, acts) = subst
      (λ w. asked_step w step.0 ≡ Some (set, acts)) is step.2 in
      cc (none)

  -- no question has the word of two families
  pub two_no_question : (q : QuestionState) → word ≡ W.B4 → IsQuestion lines word left right q → ⊥
  two_no_question q is shaped = by q.acts
      (subst (λ w. HasSides lines w left right q.acts) is shaped.sides)
    where
      by : (acts : Option ℕ) → HasSides lines W.B4 left right acts → ⊥
      by None sides = let b1 = sides.0 in cc (b1)
      by (Some acts) sides = let step = sides.3.2 in cc (step)

  -- the action set of the step is one
  pub acts_once : (a b : Option ℕ) → HasSides lines word left right a
      → HasSides lines word left right b → a ≡ b
  acts_once None None is also = refl
  acts_once None (Some b) is also = absurd (alone_no_step also.0 also.1 b is.0 also.3)
  acts_once (Some a) None is also = absurd (alone_no_step is.0 is.1 a also.0 is.3)
  acts_once (Some a) (Some b) is also =
      elim (also.4 is.0 is.2) [
        | inl literal ↦ absurd (step_no_literal lines word is.0 is.1 a is.3 literal)
        | inr same ↦
            ap Some (step_once lines word also.0 is.1 a also.1 b
            (subst (λ s. IsStep lines word s is.1 a) same is.3) also.3).1
      ]

  -- the family of some formula is that of all
  family_by : (f g : FormulaFamily) (set : ℕ) → IsOfFamily lines f set → IsWithinFamily lines g set
      → f ≡ g
  family_by f g set (x, at, is) (y, found, inl none) =
      let same : y ≡ x = cc (at, found) in
      let out : family_of x ≡ None = subst (λ e. family_of e ≡ None) same none in
      absurd (cc (out, is))
  family_by f g set (x, at, is) (y, found, inr also) =
      let same : y ≡ x = cc (at, found) in
      let other : family_of x ≡ Some g = subst (λ e. family_of e ≡ Some g) same also in
      same_Some f g (sym is ∙ other)

  family_once : (f g : FormulaFamily) → IsFamilyOf lines word left right f
      → IsFamilyOf lines word left right g → f ≡ g
  family_once f g is also =
      elim is.some [
        | inl horn ↦ elim also.some [
          | inl other ↦ horn ∙ sym other
          | inr (sign, asked, there, of) ↦ sym
              (family_by g f asked.0 of (is.within sign asked there))
        ]
        | inr (sign, asked, there, of) ↦ family_by f g asked.0 of (also.within sign asked there)
      ]

  pub question_once : (p q : QuestionState) → IsQuestion lines word left right p
      → IsQuestion lines word left right q → p ≡ q
  question_once p q is also =
      let family : p.family ≡ q.family = family_once p.family q.family is.family also.family in
      let positive : p.positive ≡ q.positive =
      rising_once p.positive q.positive is.positive_rises also.positive_rises
      (λ a. (
        λ c. (also.positive a).1 ((is.positive a).0 c),
        λ c. (is.positive a).1
            ((also.positive a).0 c),
      )) in
      let negative : p.negative ≡ q.negative =
      rising_once p.negative q.negative is.negative_rises also.negative_rises
      (λ a. (
        λ c. (also.negative a).1 ((is.negative a).0 c),
        λ c. (is.negative a).1
            ((also.negative a).0 c),
      )) in
      let acts : p.acts ≡ q.acts = acts_once p.acts q.acts is.sides also.sides in
      λ i. record { family = family i; positive = positive i; negative = negative i; acts = acts i }
