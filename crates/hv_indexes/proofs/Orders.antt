-- Orders of places: what a further code, and another order of the codes, make of them.
use Rattle.std.proofs.Common.{◌≡◌, ◌∙◌, ◌+◌, ◌<◌, ◌++◌, ◌↔◌, ℕ, List, [], ◌∷◌, ap, arith, get_or}
use Rattle.std.proofs.Common.{inl, inr, length, sym}
use Rattle.std.proofs.lemmas.Bool.{cases_lt}
use Rattle.std.proofs.lemmas.List.{get_or_append_left, get_or_default, get_or_push, length_push}
use Rattle.std.proofs.lemmas.List.Elements.{Contains-append_left, Contains-get_or, Contains-push}
use Rattle.std.proofs.lemmas.List.Elements.{Contains-push_cases}
use Rattle.std.proofs.lemmas.List.Kept.{AllPairs-from_increasing}
use Rattle.std.specs.List.{Contains}
use Rattle.std.specs.List.Sorted.{IsStrictlyIncreasing}
use Rattle.hv_indexes.specs.Orders.{OrdersUpto, place_in}

pub orders_same : (upto : ℕ) (old new : List ℕ) → IsStrictlyIncreasing new
    → ((c : ℕ) → Contains new c ↔ Contains old c) → OrdersUpto upto old → OrdersUpto upto new
orders_same upto old new rises same is = record {
  only = λ c has. is.only c ((same c).0 has);
  each = λ p less. let w = is.each p less in (w.0, (same (w.0)).1 (w.1), w.2);
  once = λ i j d less within agree.
      let c = get_or new i d in
      let e = get_or new j d in
      let before : c < e = AllPairs-from_increasing new rises i j d less within in
      let one = (same c).0 (Contains-get_or new i d (omega arith)) in
      let other = (same e).0 (Contains-get_or new j d within) in
      let low = one.1 in
      let high = other.1 in
      let there : get_or old (other.0) c ≡ e = get_or_default old (other.0) c e high ∙ other.2 in
      elim (cases_lt (one.0) (other.0)) [
        | inl first ↦ is.once (one.0) (other.0) c first high
            (ap place_in (one.2) ∙ agree ∙ sym (ap place_in there))
        | inr late ↦ elim (cases_lt (other.0) (one.0)) [
          | inl second ↦ is.once (other.0) (one.0) c second low
              (ap place_in there ∙ sym agree ∙ sym (ap place_in (one.2)))
          | inr early ↦
              let here : one.0 ≡ other.0 = omega (arith, late, early) in
              let equal : c ≡ e = sym (one.2) ∙ ap (λ k. get_or old k c) here ∙ there in
              omega (arith, before, equal)
        ]
      ];
}

pub orders_more : (upto code : ℕ) (order : List ℕ) → place_in code ≡ upto → OrdersUpto upto order
    → OrdersUpto (upto + 1) (order ++ code ∷ [])
orders_more upto code order at is = record {
  only = λ c has. elim (Contains-push_cases order code c has) [
    | inl old ↦ let less = is.only c old in omega (arith, less)
    | inr same ↦ let e = ap place_in same in omega (arith, e, at)
  ];
  each = λ p less. elim (cases_lt p upto) [
    | inl before ↦ let w = is.each p before in
        (w.0, Contains-append_left order (code ∷ []) (w.0) (w.1), w.2)
    | inr late ↦ (code, Contains-push order code, omega (arith, at, late, less))
  ];
  once = λ i j d less within agree.
      let long = length_push order code in
      let inside : i < length order = omega (arith, long, less, within) in
      let old = ap place_in (get_or_append_left order (code ∷ []) d i inside) in
      elim (cases_lt j (length order)) [
        | inl before ↦ is.once i j d less before
            (sym old ∙ agree ∙ ap place_in (get_or_append_left order (code ∷ []) d j before))
        | inr last ↦
            let low = is.only (get_or order i d) (Contains-get_or order i d inside) in
            let here : place_in (get_or order i d) ≡ upto = sym old ∙ agree
            ∙ ap place_in (get_or_push order code d j (omega (arith, long, last, within))) ∙ at in
            omega (arith, low, here)
      ];
}
