use Rattle.std.proofs.Common.{◌≡◌, ◌∙◌, ◌+◌, ◌<◌, ℕ, List, Bool, Option, None, Some, true, false}
use Rattle.std.proofs.Common.{get_or, length, ap, arith, inl, inr, refl, subst, sym}
use Rattle.std.proofs.lemmas.Bool.{cases_lt}
use Rattle.std.proofs.lemmas.List.{get_or_default}
use Rattle.std.proofs.lemmas.List.Elements.{Contains-get_or}
use Rattle.std.proofs.Math.Bool.{beq}
use Rattle.std.specs.Option.{option_eq}
use Rattle.hv_sets.specs.declared.literal.Literal.{Literal}
use Rattle.hv_propagation.specs.Trail.{marks_of}
use Rattle.hv_propagation.specs.Units.{value_of}
use Rattle.hv_propagation.proofs.literals.has_true.Goals as goal

is_true : (value : Option Bool) → true ≡ option_eq beq value (Some true) → value ≡ Some true
is_true None e = absurd cc
is_true (Some true) e = refl
is_true (Some false) e = absurd cc

-- one literal more isn't known to be true
none_more : (e m : List ℕ) (clause : List Literal) (i : ℕ) (none : Literal) → i < length clause
    → ((k : ℕ) (d : Literal) → k < i → value_of e m (get_or clause k d) ≡ Some true → ⊥)
    → (value_of e m (get_or clause i none) ≡ Some true → ⊥)
    → (k : ℕ) (d : Literal) → k < i + 1 → value_of e m (get_or clause k d) ≡ Some true → ⊥
none_more e m clause i none within before here k d less is = elim (cases_lt k i) [
  | inl early ↦ before k d early is
  | inr late ↦
      let same : k ≡ i = omega (arith, less, late) in
      here (subst (λ j. value_of e m (get_or clause j none) ≡ Some true) same
      (subst (λ l. value_of e m l ≡ Some true)
      (get_or_default clause k d none (omega (arith, same, within))) is))
]

pub returns-then-eq-clause-yes : goal.returns-then-eq-clause-yes
returns-then-eq-clause-yes c = λ _. (
  get_or c.args.clause.now c.loop-literal.literal-index _,
  Contains-get_or c.args.clause.now c.loop-literal.literal-index _ c.loop-literal-test.true,
  sym c.value.ensures ∙ is_true c.value.result c.if-eq.ensures,
)

pub returns-then-eq-clause-no : goal.returns-then-eq-clause-no
returns-then-eq-clause-no c = λ e. absurd (let f : true ≡ false = e in cc)

pub loop-literal-preserved : goal.loop-literal-preserved
loop-literal-preserved c =
    none_more c.args.effect.now (marks_of c.args.marks.now) c.args.clause.now
    c.loop-literal.literal-index _ c.loop-literal-test.true c.loop-literal.invariant
    (λ is.
    let f : false ≡ true = c.if-eq.ensures
    ∙ ap (λ v. option_eq beq v (Some true)) (c.value.ensures ∙ is) in
    cc)

pub returns-clause-no : goal.returns-clause-no
returns-clause-no c = λ _ k d less.
    c.loop-literal.invariant k d (omega (arith, less, c.loop-literal-test.false))
