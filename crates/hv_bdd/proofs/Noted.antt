-- The places of the atoms of an order, and what is no order.
use Rattle.std.proofs.Common.{◌≡◌, ◌≢◌, ℕ, ◌<◌, ◌∙◌, Bool, true, false, List, None, Some}
use Rattle.std.proofs.Common.{cond, get_or, length, refl, sym, ap, subst, arith, ⊎_elim}
use Rattle.std.proofs.lemmas.Grind.{get_or_default_zero}
use Rattle.std.specs.List.{All}
use Rattle.hv_bdd.specs.Order.{position}
use Rattle.hv_bdd.specs.OrderLine.{if_order, is_order}
use Rattle.hv_bdd.specs.Working.Inverse.{AreInverse}
use Rattle.hv_bdd.specs.Working.Noting.{AreNoted}
use Rattle.hv_bdd.proofs.Permuted.{found, is_by, there_at}

pub not_order : (atoms : ℕ) (order : List ℕ) → length order ≡ atoms
    → is_order (length order) order ≡ false → None ≡ if_order atoms order
not_order atoms order size e =
    sym (ap (λ b. cond b (Some order) None) (subst (λ n. is_order n order ≡ false) size e))

-- the places of all atoms were written
module _ (order places : List ℕ)
    (written : (v : ℕ) → v < length order
    → get_or places (get_or order v (length order)) 0 ≡ v) where
  back : (v : ℕ) → v < length order → position order (get_or order v (length order)) ≡ v
  back v less =
      let f = found order (get_or order v (length order)) (length order) v less refl in
      let upto = f.0 in
      sym (written (position order (get_or order v (length order))) (omega arith))
      ∙ (ap (λ a. get_or places a 0) f.1 ∙ written v less)

  is : is_order (length order) order ≡ true
  is = is_by (length order) order refl back

  pub is_one : (atoms : ℕ) → length order ≡ atoms → Some order ≡ if_order atoms order
  is_one atoms size =
      sym (ap (λ b. cond b (Some order) None) (subst (λ n. is_order n order ≡ true) size is))

  pub inverse : length places ≡ length order → All (λ a. a < length order) order
      → AreInverse order places
  inverse size below = record {
    size = size;
    place = λ a less.
        let there = there_at (length order) order below is a less in
        ap (λ x. get_or places x 0) (sym there.1) ∙ written (position order a) there.0;
  }

-- all places are filled
module _ (order places : List ℕ) (filled : AreNoted order places (length order)) where
  pub all_below : All (λ a. a < length order) order
  all_below = λ k d less.
      subst (λ a. a < length order) (sym (get_or_default_zero order k d less))
      (filled.atoms k less)

  -- an atom that stands at none of them
  pub missing : (a : ℕ) → a < length order → get_or places a 0 ≡ length order
      → is_order (length order) order ≡ false
  missing a less none = by (is_order (length order) order) refl
    where
      by : (t : Bool) → is_order (length order) order ≡ t → t ≡ false
      by false t = refl
      by true t =
          let there = there_at (length order) order all_below t a less in
          let same = get_or_default_zero order (position order a) (length order) there.0 in
          let noted = subst (λ x. get_or places x 0 < length order) (sym same ∙ there.1)
          (filled.noted (position order a) there.0) in
          absurd (omega arith)

  -- each of the atoms stands at one
  module _ (each : (a : ℕ) → a < length places → get_or places a 0 ≢ length order) where
    stands : (a : ℕ) → a < length places
        → (get_or places a 0 < length order) × (get_or order (get_or places a 0) 0 ≡ a)
    stands a less =
        let size = filled.size in
        ⊎_elim (λ none. absurd (each a less none)) (λ there. there)
        (filled.others a (omega arith))

    there_back : (v : ℕ) → v < length places
        → get_or order (get_or places v (length places)) 0 ≡ v
    there_back v less =
        ap (λ p. get_or order p 0) (get_or_default_zero places v (length places) less)
        ∙ (stands v less).1

    places_below : All (λ a. a < length places) places
    places_below = λ k d less.
        let size = filled.size in
        let same = get_or_default_zero places k d less in
        let place = (stands k less).0 in
        omega arith

    pub all_noted : (v : ℕ) → v < length order
        → get_or places (get_or order v (length order)) 0 ≡ v
    all_noted v less =
        let size = filled.size in
        let within : v < length places = omega arith in
        let back = inverse places order there_back (sym size) places_below in
        let there = there_at (length places) places places_below
        (is places order there_back) v within in
        ap (λ a. get_or places a 0) (get_or_default_zero order v (length order) less
        ∙ back.place v within)
        ∙ (sym (get_or_default_zero places (position places v) (length places) there.0) ∙ there.1)
