-- A list of so many atoms in which none occurs twice is an order of the atoms, and the other way
-- round.
use Rattle.std.proofs.Common.{◌≡◌, ℕ, zero, suc, ◌<◌, ◌≤◌, ◌+◌, ◌∙◌, Bool, true, false, List}
use Rattle.std.proofs.Common.{[], ◌∷◌, Some, cond, eqb, get_or, length, refl, sym, ap, subst}
use Rattle.std.proofs.Common.{arith}
use Rattle.std.proofs.lemmas.Bool.{and_from, and_parts, eq-eqb, eqb-false, eqb-true, ne_eqb}
use Rattle.std.proofs.lemmas.List.{get_or_default}
use Rattle.std.proofs.lemmas.List.Folds.{list_all_at, list_any_at}
use Rattle.std.proofs.lemmas.List.Sums.{list_all-from_AllPass}
use Rattle.std.proofs.lemmas.Map.Keys.{IsDistinct-from_apart}
use Rattle.std.proofs.lemmas.Map.Steps.{length-le_from_distinct_below}
use Rattle.std.proofs.lemmas.Map.Views.{Contains-from_any}
use Rattle.std.proofs.lemmas.List.FromFn.{get_or-range_with_len, length-range_with_len}
use Rattle.std.specs.List.{All, list_all, list_any, range_with_len}
use Rattle.hv_bdd.specs.declared.node.Node.{Node}
use Rattle.hv_bdd.specs.Order.{IsOrder, atom_at, place, position}
use Rattle.hv_bdd.specs.OrderLine.{is_order}
use Rattle.hv_bdd.specs.Working.NodeText.{list_over}

-- where an atom occurs first is no later than any place at which it stands
abbrev pub Found : List ℕ → ℕ → ℕ → ℕ → ℕ → Type 0
Found order a d k p = (p ≤ k) × (get_or order p d ≡ a)

found_by : (x : ℕ) (xs : List ℕ) (a d p k : ℕ) (b : Bool) → eqb x a ≡ b
    → ((j : ℕ) → j < length xs → get_or xs j d ≡ a → Found xs a d j p)
    → k < length (x ∷ xs) → get_or (x ∷ xs) k d ≡ a → Found (x ∷ xs) a d k (cond b 0 (p + 1))
found_by x xs a d p k true t ih less e = (omega arith, eqb-true x a t)
found_by x xs a d p zero false t ih less e = absurd (eqb-false x a t e)
found_by x xs a d p (suc j) false t ih less e =
    let f = ih j (omega arith) e in
    let upto = f.0 in (
      omega arith,
      subst (λ i. get_or (x ∷ xs) i d ≡ a) (let s : suc p ≡ p + 1 = omega arith in s) f.1,
    )

pub found : (order : List ℕ) (a d k : ℕ) → k < length order → get_or order k d ≡ a
    → Found order a d k (position order a)
found [] a d k less e = absurd (omega arith)
found (x ∷ xs) a d k less e =
    found_by x xs a d (position xs a) k (eqb x a) refl (λ j within is. found xs a d j within is)
    less e

module _ (atoms : ℕ) (order : List ℕ) where
  abbrev at : ℕ → ℕ
  at v = get_or order v (length order)

  abbrev IsFirst : ℕ → Type 0
  IsFirst v = position order (at v) ≡ v

  abbrev first : ℕ → Bool
  first v = eqb (position order (at v)) v

  range_at : (v : ℕ) → v < atoms → get_or (range_with_len 0 atoms) v 0 ≡ v
  range_at v less = get_or-range_with_len 0 atoms v 0 less
      ∙ (let e : 0 + v ≡ v = omega arith in e)

  first_by : (t : Bool) (v : ℕ) → v < atoms → first v ≡ t
      → list_all first (range_with_len 0 atoms) ≡ true → IsFirst v
  first_by true v less t all = eqb-true (position order (at v)) v t
  first_by false v less t all =
      let size = length-range_with_len 0 atoms in
      let bad = list_all_at first (range_with_len 0 atoms) v 0 (omega arith)
      (ap first (range_at v less) ∙ t) in
      let clash : true ≡ false = sym all ∙ bad in absurd cc

  -- at each place stands an atom that is at no earlier one
  pub firsts : is_order atoms order ≡ true → (v : ℕ) → v < atoms → IsFirst v
  firsts is v less = first_by (first v) v less refl
      (and_parts (eqb (length order) atoms) (list_all first (range_with_len 0 atoms)) is).1

  pub size_of : is_order atoms order ≡ true → length order ≡ atoms
  size_of is = eqb-true (length order) atoms
      (and_parts (eqb (length order) atoms) (list_all first (range_with_len 0 atoms)) is).0

  module _ (below : All (λ a. a < atoms) order) (is : is_order atoms order ≡ true) where
    apart : (i j : ℕ) → i < atoms → j < atoms → at i ≡ at j → i ≡ j
    apart i j in_i in_j e =
        sym (firsts is i in_i) ∙ (ap (position order) e ∙ firsts is j in_j)

    at_less : (v : ℕ) → v < atoms → at v < atoms
    at_less v less = let size = size_of is in below v (length order) (omega arith)

    abbrev IsListed : ℕ → Type 0
    IsListed a = (k : ℕ) × (k < atoms) × (at k ≡ a)

    -- an atom that isn't there would make one more
    absent : (a : ℕ) → a < atoms → list_any (eqb a) order ≡ false → ⊥
    absent a less none =
        let size = size_of is in
        let most = length-le_from_distinct_below (a ∷ order) atoms
        (IsDistinct-from_apart eqb (a ∷ order) (λ i j d before within. differ i j d before within))
        (λ q there. all_less q there) in
        omega arith
      where
        other : (j d : ℕ) → j < length order → eqb a (get_or order j d) ≡ true → ⊥
        other j d within same =
            let there = list_any_at (eqb a) order j d within same in
            let clash : true ≡ false = sym there ∙ none in absurd cc

        not_true : (t : Bool) → (t ≡ true → ⊥) → t ≡ false
        not_true true never = absurd (never refl)
        not_true false never = refl

        differ : (i j d : ℕ) → i < j → j < length (a ∷ order)
            → eqb (get_or (a ∷ order) i d) (get_or (a ∷ order) j d) ≡ false
        differ i zero d before within = absurd (omega arith)
        differ zero (suc j) d before within =
            not_true (eqb a (get_or order j d)) (other j d (omega arith))
        differ (suc i) (suc j) d before within =
            let size = size_of is in
            ne_eqb (get_or order i d) (get_or order j d) (λ e.
            let same = apart i j (omega arith) (omega arith)
            (sym (get_or_default order i d (length order) (omega arith))
            ∙ (e ∙ get_or_default order j d (length order) (omega arith))) in
            omega arith)

        all_less : (q : ℕ) → list_any (eqb q) (a ∷ order) ≡ true → q < atoms
        all_less q there =
            let c = Contains-from_any {eq = eqb} eqb-true q (a ∷ order) there in
            by (c.0) (c.1) (c.2)
          where
            by : (k : ℕ) → k < length (a ∷ order) → get_or (a ∷ order) k q ≡ q → q < atoms
            by zero within e = subst (λ x. x < atoms) e less
            by (suc k) within e = subst (λ x. x < atoms) e (below k q (omega arith))

    listed_by : (t : Bool) (a : ℕ) → a < atoms → list_any (eqb a) order ≡ t → IsListed a
    listed_by true a less t =
        let size = size_of is in
        let c = Contains-from_any {eq = eqb} eqb-true a order t in
        let within = c.1 in (
          c.0,
          omega arith,
          get_or_default order c.0 (length order) a c.1 ∙ c.2,
        )
    listed_by false a less t = absurd (absent a less t)

    listed : (a : ℕ) → a < atoms → IsListed a
    listed a less = listed_by (list_any (eqb a) order) a less refl

    pub there_at : (a : ℕ) → a < atoms → (position order a < atoms) × (at (position order a) ≡ a)
    there_at a less =
        let size = size_of is in
        let l = listed a less in
        let within = l.1 in
        let f = found order a (length order) l.0 (omega arith) l.2 in
        let upto = f.0 in (omega arith, f.1)

    pub order_from : (nodes : List Node) → IsOrder (list_over atoms (Some order) nodes)
    unfolding place atom_at
    order_from nodes = record {
      size = λ o e. subst (λ (x : List ℕ). length x ≡ atoms) (let same : order ≡ o = cc in same)
          (size_of is);
      atom_in = at_less;
      place_in = λ a less. (there_at a less).0;
      there = λ a less. (there_at a less).1;
      back = firsts is;
    }

-- so a list is an order where this holds of each place
pub is_by : (atoms : ℕ) (order : List ℕ) → length order ≡ atoms
    → ((v : ℕ) → v < atoms → IsFirst atoms order v) → is_order atoms order ≡ true
is_by atoms order size back =
    and_from (eqb (length order) atoms) (list_all (first atoms order) (range_with_len 0 atoms))
    (eq-eqb (length order) atoms size)
    (list_all-from_AllPass (first atoms order) (range_with_len 0 atoms) (λ k d less.
    let count = length-range_with_len 0 atoms in
    let this : get_or (range_with_len 0 atoms) k d ≡ k =
    get_or-range_with_len 0 atoms k d (omega arith) ∙ (let e : 0 + k ≡ k = omega arith in e) in
    let within : k < atoms = omega arith in
    subst (λ v. first atoms order v ≡ true) (sym this)
    (eq-eqb (position order (at atoms order k)) k (back k within))))

-- what an order of a list of nodes is
module _ (atoms : ℕ) (order : List ℕ) (nodes : List Node)
    (o : IsOrder (list_over atoms (Some order) nodes)) where
  length_is : length order ≡ atoms
  length_is = o.size order refl

  pub below_from : All (λ a. a < atoms) order
  unfolding atom_at
  below_from = λ k d less.
      let size = length_is in
      subst (λ x. x < atoms) (get_or_default order k (length order) d less)
      (o.atom_in k (omega arith))

  back_from : (v : ℕ) → v < atoms → position order (get_or order v (length order)) ≡ v
  unfolding place atom_at
  back_from v less = o.back v less

  pub is_from : is_order atoms order ≡ true
  is_from = is_by atoms order length_is back_from
