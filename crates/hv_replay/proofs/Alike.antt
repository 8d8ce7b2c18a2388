-- Lists of boxes that cover alike, place by place.
use Rattle.std.proofs.Common.{◌≡◌, ◌≢◌, ℕ, ◌<◌, ◌∙◌, ◌↔◌, Bool, List, get_or, set, length, refl}
use Rattle.std.proofs.Common.{sym, ap, subst, inl, inr, arith}
use Rattle.std.specs.List.{Any}
use Rattle.std.proofs.lemmas.Bool.{cases_order}
use Rattle.std.proofs.lemmas.List.{get_or-set_other, get_or-set_same, length-set}
use Rattle.std.proofs.lemmas.Option.{get_or_from_slice_get, same_Some, slice_get-get_or}
use Rattle.std.proofs.lemmas.Option.{slice_get_cases, slice_get_within}
use Rattle.std.proofs.Math.Logic.Iff
use Rattle.hv_task.specs.Strips.{Strips}
use Rattle.hv_replay.specs.Boxes.{CoverAlike}
use Rattle.hv_replay.proofs.Several.{any_at}

-- the same words, with the lists before what is covered
abbrev pub AlikeOf : {X : Type 0} → List X → List X → (X → Strips → List Bool → Type 0) → Type 0
AlikeOf boxes others Covers = CoverAlike Covers boxes others

module _ {X : Type 0} (xs : List X) (Covers : X → Strips → List Bool → Type 0) where
  -- the one covers what the other covers
  abbrev Same : X → X → Type 0
  Same x y = (task : Strips) (state : List Bool) → Covers x task state ↔ Covers y task state

  same_box : (x y : X) → x ≡ y → Same x y
  same_box x y is task state = subst (λ z. Covers x task state ↔ Covers z task state) is
      (λ h. h, λ h. h)

  pub alike_same : CoverAlike Covers xs xs
  alike_same = record {
    count = refl;
    each = λ k x y at also. same_box x y (same_Some x y (sym at ∙ also));
  }

  pub alike_then : (ys zs : List X) → CoverAlike Covers xs ys → CoverAlike Covers ys zs
      → CoverAlike Covers xs zs
  alike_then ys zs first next = record {
    count = first.count ∙ next.count;
    each = λ k x z at also task state.
        elim (slice_get_cases ys k).1 [
          | inl (y, below, named, got) ↦ Iff.trans (first.each k x y at named task state)
              (next.each k y z named also task state)
          | inr (past, none) ↦ absurd (omega (arith, slice_get_within xs k x at, first.count, past))
        ];
  }

  -- the box at a place is replaced by one that covers the same
  pub alike_set : (i : ℕ) (d y : X) → i < length xs → Same y (get_or xs i d)
      → CoverAlike Covers (set xs i y) xs
  alike_set i d y within same = record {
    count = length-set xs i y;
    each = λ k x z at also.
        let new : get_or (set xs i y) k d ≡ x = get_or_from_slice_get (set xs i y) k x d at in
        let old : get_or xs k d ≡ z = get_or_from_slice_get xs k z d also in
        elim (cases_order k i) [
          | inl is ↦
              let x_is : y ≡ x = sym (get_or-set_same xs i y d within)
              ∙ (ap (λ j. get_or (set xs i y) j d) (sym is) ∙ new) in
              let z_is : get_or xs i d ≡ z = ap (λ j. get_or xs j d) (sym is) ∙ old in
              subst (λ a. Same a z) x_is (subst (λ a. Same y a) z_is same)
          | inr (inl lower) ↦
              let no : k ≢ i = λ e. omega (arith, e, lower) in
              same_box x z (sym new ∙ (get_or-set_other xs i k y d no ∙ old))
          | inr (inr upper) ↦
              let no : k ≢ i = λ e. omega (arith, e, upper) in
              same_box x z (sym new ∙ (get_or-set_other xs i k y d no ∙ old))
        ];
  }

  module _ (ys : List X) (alike : CoverAlike Covers xs ys) (task : Strips) (state : List Bool) where
    any_to : Any (λ x. Covers x task state) xs → Any (λ x. Covers x task state) ys
    any_to (k, x, less, at, holds) =
        let other : k < length ys = omega (arith, less, alike.count) in
        let named = slice_get-get_or xs k x less in
        let also = slice_get-get_or ys k x other in
        any_at ys k x (λ z. Covers z task state) other
        ((alike.each k (get_or xs k x) (get_or ys k x) named also task state).0
        (subst (λ z. Covers z task state) (sym at) holds))

    any_back : Any (λ x. Covers x task state) ys → Any (λ x. Covers x task state) xs
    any_back (k, x, less, at, holds) =
        let other : k < length xs = omega (arith, less, alike.count) in
        let named = slice_get-get_or xs k x other in
        let also = slice_get-get_or ys k x less in
        any_at xs k x (λ z. Covers z task state) other
        ((alike.each k (get_or xs k x) (get_or ys k x) named also task state).1
        (subst (λ z. Covers z task state) (sym at) holds))

    -- what some box of the one list covers, some box of the other does
    pub any_alike : Any (λ x. Covers x task state) xs ↔ Any (λ x. Covers x task state) ys
    any_alike = (any_to, any_back)

-- the box at a place is replaced, in a list that was changed before
pub alike_next : {X : Type 0} (xs first : List X) (i : ℕ) (d y : X)
    (Covers : X → Strips → List Bool → Type 0) → i < length xs
    → ((task : Strips) (state : List Bool)
    → Covers y task state ↔ Covers (get_or xs i d) task state) → CoverAlike Covers xs first
    → CoverAlike Covers (set xs i y) first
alike_next xs first i d y Covers within same alike = alike_then (set xs i y) Covers xs first
    (alike_set xs Covers i d y within same) alike
