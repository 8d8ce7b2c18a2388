use Rattle.std.proofs.Common.{◌≡◌, ◌∙◌, ◌+◌, ◌<◌, ◌++◌, ◌∷◌, ℕ, List, [], ap, arith, get_or, inl}
use Rattle.std.proofs.Common.{inr, length, subst, sym}
use Rattle.std.proofs.lemmas.Bool.{cases_lt}
use Rattle.std.proofs.lemmas.List.{get_or_append_left, get_or_push, length_push}
use Rattle.hv_formula.proofs.arranged.Arranged.rising.Goals as goal

-- one place more stands where it is
one_more : (items new : List ℕ) (n : ℕ) → length items ≡ n
    → ((k : ℕ) → k < n → get_or items k 0 ≡ k) → new ≡ items ++ n ∷ []
    → (length new ≡ n + 1) × ((k : ℕ) → k < n + 1 → get_or new k 0 ≡ k)
one_more items new n size are is = (
  ap length is ∙ (length_push items n ∙ ap (λ m. m + 1) size),
  λ k less. ap (λ xs. get_or xs k 0) is ∙ elim (cases_lt k n) [
    | inl early ↦ get_or_append_left items (n ∷ []) 0 k (omega (arith, early, size)) ∙ are k early
    | inr late ↦
        let same : n ≡ k = omega (arith, less, late) in
        get_or_push items n 0 k (size ∙ same) ∙ same
  ],
)

pub loop-place-init : goal.loop-place-init
loop-place-init c = (
  ap length c.in_ok-order.ensures.items,
  ap length c.in_ok-places.ensures.items,
  λ k less. absurd (omega (arith, less)),
  λ k less. absurd (omega (arith, less)),
)

pub loop-place-preserved : goal.loop-place-preserved
loop-place-preserved c =
    let is = c.loop-place.invariant in
    let order = one_more c.loop-place.order.items c.push.new.self.items c.loop-place.place is.0 is.2
    c.in_ok-push.ensures.items in
    let places = one_more c.loop-place.places.items c.push-in-loop-place.new.self.items
    c.loop-place.place is.1 is.3 c.in_ok-push-2.ensures.items in
    (order.0, places.0, order.1, places.1)

pub returns-clause-arranged : goal.returns-clause-arranged
returns-clause-arranged c =
    let is = c.loop-place.invariant in
    let past = c.loop-place-test.false in
    let at : c.loop-place.place ≡ c.args.count = omega (arith, past, c.loop-place.auto.place-end) in
    record {
      fits = c.if-count.false;
      size = is.0 ∙ at;
      room = is.1 ∙ at;
      few = omega arith;
      below = λ k less.
          subst (λ x. x < c.args.count) (sym (is.2 k (omega (arith, less, at)))) less;
      within = λ k less.
          subst (λ x. x < c.args.count) (sym (is.3 k (omega (arith, less, at)))) less;
      back = λ k less.
          ap (λ j. get_or c.loop-place.order.items j 0) (is.3 k (omega (arith, less, at)))
          ∙ is.2 k (omega (arith, less, at));
    }
