-- What is asked about, put in order.
use Rattle.std.proofs.Common.{◌≡◌, ℕ, suc, ◌<◌, ◌+◌, ◌∙◌, ◌++◌, Bool, true, false, List, [], ◌∷◌}
use Rattle.std.proofs.Common.{◌≤◌, ◌-◌, Option, Some, drop}
use Rattle.std.proofs.Common.{length, get_or, take, refl, sym, ap, ap₂, subst, inl, inr, arith}
use Rattle.std.proofs.lemmas.List.{get_or_default, length-append}
use Rattle.std.proofs.lemmas.Bool.{cases_lt, cond-true, cond-false}
use Rattle.std.proofs.lemmas.Cmp.{nat_cmp_total}
use Rattle.std.proofs.lemmas.List.Elements.{Contains-append_left, Contains-push}
use Rattle.std.proofs.lemmas.List.Elements.{Contains-push_cases}
use Rattle.std.proofs.lemmas.Map.Keys.{Less-from_sorted}
use Rattle.std.proofs.lemmas.Map.Lookups.{exact_pairs, exact_unsigned}
use Rattle.std.proofs.lemmas.Map.Views.{btree_set_contains_iff, tells_apart}
use Rattle.std.proofs.lemmas.Option.{get_or_from_slice_get, slice_get-get_or, slice_get_within}
use Rattle.std.specs.BTreeSet.{BTreeSet, Updates, contains}
use Rattle.std.specs.BTreeMap.{is_at}
use Rattle.std.specs.Cmp.{bool_cmp_total, nat_cmp_is, on_total, then_total}
use Rattle.std.specs.List.{Contains, slice_get}
use Rattle.std.specs.List.Sorted.{IsStrictlySortedBy}
use Rattle.std.specs.Ordering.{bool_cmp, nat_cmp, ordering_then}
use Rattle.std.specs.declared.cmp.Ordering.TheVariants.{Less, Equal, Greater}
use Rattle.hv_lines.specs.Shapes.{AskedBefore, Askings, AskingsRise}
use Rattle.hv_lines.specs.declared.formula_family.FormulaFamily.{FormulaFamily}
use Rattle.hv_basic.specs.Sharing.{order}
use Rattle.hv_basic.specs.Working.Asked.{AreChosen, AreKeys, IsAskedWith}
use Rattle.hv_basic.specs.declared.signed_sets.Asking.{Asking}
use Rattle.hv_lines.proofs.Elements.{cons_cases, got_in, head_in, last_cases, tail_in}
use Rattle.hv_basic.proofs.Gathering.{take_more}
use Rattle.hv_basic.proofs.Growing.{got_before}
use Rattle.hv_basic.proofs.Sharing.{drop_at}

bool_exact : (a b : Bool) → bool_cmp a b ≡ Equal → a ≡ b
bool_exact false false e = refl
bool_exact false true e = absurd (cc (e))
bool_exact true false e = absurd (cc (e))
bool_exact true true e = refl

bool_less : (a b : Bool) → bool_cmp a b ≡ Less → (a ≡ false) × (b ≡ true)
bool_less false true e = (refl, refl)
bool_less false false e = absurd (cc (e))
bool_less true false e = absurd (cc (e))
bool_less true true e = absurd (cc (e))

order_exact : (p q : ℕ × Bool) → order p q ≡ Equal → p ≡ q
order_exact = exact_pairs nat_cmp bool_cmp exact_unsigned bool_exact

pub at_same : (p q : ℕ × Bool) → is_at (order p) q ≡ true → p ≡ q
at_same p q e = tells_apart order_exact p q e

order_less : (p q : ℕ × Bool) → order p q ≡ Less → AskedBefore p q
order_less p q e =
    elim (cases_lt p.0 q.0) [
      | inl less ↦ inl less
      | inr upto ↦ elim (cases_lt q.0 p.0) [
        | inl more ↦
            let is : nat_cmp p.0 q.0 ≡ Greater = sym (nat_cmp_is p.0 q.0 Greater more) in
            let both : Greater ≡ Less = sym (ap (λ o. ordering_then o (bool_cmp p.1 q.1)) is) ∙ e in
            absurd (cc (both))
        | inr also ↦
            let same : p.0 ≡ q.0 = omega (arith, upto, also) in
            let is : nat_cmp p.0 q.0 ≡ Equal = sym (nat_cmp_is p.0 q.0 Equal same) in
            let flags = bool_less p.1 q.1 (sym (ap (λ o. ordering_then o (bool_cmp p.1 q.1)) is)
            ∙ e) in
            inr (same, flags.0, flags.1)
      ]
    ]

pub ordered_rises : (asked : Askings) → IsStrictlySortedBy order asked → AskingsRise asked
ordered_rises asked sorted i j first second less at_first at_second =
    let within : j < length asked = slice_get_within asked j second at_second in
    let x : get_or asked i first ≡ first = get_or_from_slice_get asked i first first at_first in
    let y : get_or asked j first ≡ second = get_or_from_slice_get asked j second first at_second in
    order_less first second
    (sym (ap₂ order x y) ∙ Less-from_sorted order asked i j first sorted less within)

pub chosen_of : (askings : List Asking) (positive : Bool) (keys : BTreeSet (ℕ × Bool))
    → AreKeys askings positive keys
    → AreChosen askings positive keys.keys
chosen_of askings positive keys are asked =
    let iff = btree_set_contains_iff (then_total (on_total (λ (t : ℕ × Bool). t.0) nat_cmp_total)
    (on_total (λ (t : ℕ × Bool). t.1) bool_cmp_total)) order_exact keys asked in
    (λ c. (are asked).0 (iff.1 c), λ c. iff.0 ((are asked).1 c))

module _ (askings : List Asking) (positive : Bool) (i : ℕ) (within : i < length askings)
    (keys new : BTreeSet (ℕ × Bool)) (d : Asking)
    (before : AreKeys (take i askings) positive keys) where
  next : take (i + 1) askings ≡ take i askings ++ get_or askings i d ∷ []
  next = let more : i + 1 ≡ suc i = omega arith in
      ap (λ n. take n askings) more ∙ take_more askings i d within

  abbrev seen : ℕ × Bool → Option FormulaFamily → Asking
  seen asked family = record {
    set = asked.0;
    after = asked.1;
    positive = positive;
    family = family;
  }

  -- what has the other sign changes nothing
  pub keys_kept : ((get_or askings i d).positive ≡ positive → ⊥)
      → AreKeys (take (i + 1) askings) positive keys
  keys_kept other asked = (
    λ has.
        let was = (before asked).0 has in (
          was.0,
          subst (λ xs. Contains xs (seen asked was.0)) (sym next)
              (Contains-append_left (take i askings) (get_or askings i d ∷ []) (seen asked was.0)
              was.1),
        ),
    λ given.
        elim (Contains-push_cases (take i askings) (get_or askings i d) (seen asked given.0)
        (subst (λ xs. Contains xs (seen asked given.0)) next given.1)) [
          | inl earlier ↦ (before asked).1 (given.0, earlier)
          | inr same ↦ absurd (other (ap (λ (x : Asking). x.positive) same))
        ],
  )

  -- what has the sign is put in
  module _ (sign : (get_or askings i d).positive ≡ positive) (key : ℕ × Bool)
      (set : key.0 ≡ (get_or askings i d).set)
      (after : key.1 ≡ (get_or askings i d).after) (updates : Updates order keys new key true) where
    there : (asked : ℕ × Bool) (b : Bool) → is_at (order key) asked ≡ b
        → contains order new asked ≡ true
        → IsAskedWith (take i askings ++ get_or askings i d ∷ []) positive asked
    there asked true at has =
        let same : key ≡ asked = at_same key asked at in
        let ids : (get_or askings i d).set ≡ asked.0 = sym set ∙ ap (λ p. p.0) same in
        let late : (get_or askings i d).after ≡ asked.1 = sym after ∙ ap (λ p. p.1) same in
        let is : get_or askings i d ≡ seen asked (get_or askings i d).family = λ k. record {
          set = ids k;
          after = late k;
          positive = sign k;
          family = (get_or askings i d).family;
        } in (
          (get_or askings i d).family,
          subst (Contains (take i askings ++ get_or askings i d ∷ [])) is
              (Contains-push (take i askings) (get_or askings i d)),
        )
    there asked false at has =
        let old : contains order keys asked ≡ true =
        sym (cond-false (is_at (order key) asked) true (contains order keys asked) at)
        ∙ (sym (updates.0 asked) ∙ has) in
        let was = (before asked).0 old in (
          was.0,
          Contains-append_left (take i askings) (get_or askings i d ∷ []) (seen asked was.0) was.1,
        )

    kept : (asked : ℕ × Bool) (b : Bool) → is_at (order key) asked ≡ b
        → contains order keys asked ≡ true → contains order new asked ≡ true
    kept asked true at has = updates.0 asked
        ∙ cond-true (is_at (order key) asked) true (contains order keys asked) at
    kept asked false at has = updates.0 asked
        ∙ (cond-false (is_at (order key) asked) true (contains order keys asked) at ∙ has)

    pub keys_more : AreKeys (take (i + 1) askings) positive new
    keys_more asked = (
      λ has. subst (λ xs. IsAskedWith xs positive asked) (sym next)
          (there asked (is_at (order key) asked) refl has),
      λ given.
          elim (Contains-push_cases (take i askings) (get_or askings i d) (seen asked given.0)
          (subst (λ xs. Contains xs (seen asked given.0)) next given.1)) [
            | inl earlier ↦ kept asked (is_at (order key) asked) refl
                ((before asked).1 (given.0, earlier))
            | inr same ↦
                let ids : key.0 ≡ asked.0 = set ∙ ap (λ (x : Asking). x.set) same in
                let late : key.1 ≡ asked.1 = after ∙ ap (λ (x : Asking). x.after) same in
                let one : key ≡ asked = λ k. (ids k, late k) in
                subst (λ p. contains order new p ≡ true) one updates.1
          ],
    )

-- of three, where the first comes before the second and that before the third, so does the first
pub before_trans : (a b c : ℕ × Bool) → AskedBefore a b → AskedBefore b c → AskedBefore a c
before_trans a b c (inl less) (inl more) = inl (omega (arith, less, more))
before_trans a b c (inl less) (inr (same, _, _)) = inl (omega (arith, less, same))
before_trans a b c (inr (same, _, _)) (inl less) = inl (omega (arith, same, less))
before_trans a b c (inr (_, _, is)) (inr (_, other, _)) =
    let both : true ≡ false = sym is ∙ other in absurd cc

-- what comes behind the last of what rises comes behind all of it
pub behind_all : (asked : Askings) (next e : ℕ × Bool) → AskingsRise asked → 0 < length asked
    → AskedBefore (get_or asked (length asked - 1) e) next → (a : ℕ × Bool) → Contains asked a
    → AskedBefore a next
behind_all asked next e rises some before a (k, within, is) =
    let last : ℕ × Bool = get_or asked (length asked - 1) e in
    elim (cases_lt k (length asked - 1)) [
      | inl less ↦
          before_trans a last next
          (rises k (length asked - 1) a last less
          (slice_get-get_or asked k a within ∙ ap Some is)
          (slice_get-get_or asked (length asked - 1) e (omega (arith, some)))) before
      | inr upto ↦
          let one : length asked - 1 ≡ k = omega (arith, upto, within) in
          let own : last ≡ a = get_or_default asked (length asked - 1) e a (omega (arith, some))
          ∙ (ap (λ j. get_or asked j a) one ∙ is) in
          subst (λ (p : ℕ × Bool). AskedBefore p next) own before
    ]

-- what comes behind all of a list comes behind all of one that is the same
pub behind_in : (xs ys : Askings) (next : ℕ × Bool) → xs ≡ ys
    → ((a : ℕ × Bool) → Contains xs a → AskedBefore a next) → (a : ℕ × Bool) → Contains ys a
    → AskedBefore a next
behind_in xs ys next same = subst
    (λ (zs : Askings). (a : ℕ × Bool) → Contains zs a → AskedBefore a next) same

pub rises_push : (asked : Askings) (next : ℕ × Bool) → AskingsRise asked
    → ((a : ℕ × Bool) → Contains asked a → AskedBefore a next) → AskingsRise (asked ++ next ∷ [])
rises_push asked next rises before i j first second less at_first at_second =
    let long = length-append asked (next ∷ []) in
    let end = slice_get_within (asked ++ next ∷ []) j second at_second in
    let there : slice_get asked i ≡ Some first =
    sym (got_before asked next i (omega (arith, less, end, long))) ∙ at_first in
    elim (last_cases asked next second j at_second) [
      | inl was ↦ rises i j first second less there was
      | inr same ↦
          subst (λ (p : ℕ × Bool). AskedBefore first p) same
          (before first (got_in asked i first there))
    ]

module _ (askings : List Asking) (positive : Bool) (count : ℕ) (d : Asking)
    (within : count < length askings) (old : Askings)
    (before : AreChosen (drop (length askings - count) askings) positive old) where
  abbrev pub this : Asking
  this = get_or askings (length askings - 1 - count) d

  abbrev pub rest : List Asking
  rest = drop (length askings - count) askings

  one_before : drop (length askings - (count + 1)) askings ≡ this ∷ rest
  one_before =
      let from : length askings - (count + 1) ≡ length askings - 1 - count = omega arith in
      let to : suc (length askings - 1 - count) ≡ length askings - count = omega (arith, within) in
      ap (λ k. drop k askings) from
      ∙ (drop_at askings (length askings - 1 - count) d (omega (arith, within))
      ∙ ap (λ k. this ∷ drop k askings) to)

  abbrev with_family : ℕ × Bool → Option FormulaFamily → Asking
  with_family asked family = record {
    set = asked.0;
    after = asked.1;
    positive = positive;
    family = family;
  }

  pub chosen_kept : (this.positive ≡ positive → ⊥)
      → AreChosen (drop (length askings - (count + 1)) askings) positive old
  chosen_kept other asked = (
    λ c.
        let was = (before asked).0 c in (
          was.0,
          subst (λ xs. Contains xs (with_family asked was.0)) (sym one_before)
              (tail_in this rest (with_family asked was.0) was.1),
        ),
    λ given.
        elim (cons_cases this rest (with_family asked given.0)
        (subst (λ xs. Contains xs (with_family asked given.0)) one_before given.1)) [
          | inl same ↦ absurd (other (ap (λ (x : Asking). x.positive) same))
          | inr there ↦ (before asked).1 (given.0, there)
        ],
  )

  pub chosen_more : (new : Askings) → this.positive ≡ positive
      → new ≡ old ++ (this.set, this.after) ∷ []
      → AreChosen (drop (length askings - (count + 1)) askings) positive new
  chosen_more new sign is asked = (
    λ c. subst (λ xs. IsAskedWith xs positive asked) (sym one_before)
        (elim (Contains-push_cases old (this.set, this.after) asked
        (subst (λ xs. Contains xs asked) is c)) [
          | inl was ↦
              let earlier = (before asked).0 was in
              (earlier.0, tail_in this rest (with_family asked earlier.0) earlier.1)
          | inr same ↦
              let ids : this.set ≡ asked.0 = ap (λ (p : ℕ × Bool). p.0) same in
              let late : this.after ≡ asked.1 = ap (λ (p : ℕ × Bool). p.1) same in
              let one : this ≡ with_family asked this.family = λ k. record {
                set = ids k;
                after = late k;
                positive = sign k;
                family = this.family;
              } in
              (this.family, subst (Contains (this ∷ rest)) one (head_in this rest))
        ]),
    λ given. subst (λ xs. Contains xs asked) (sym is)
        (elim (cons_cases this rest (with_family asked given.0)
        (subst (λ xs. Contains xs (with_family asked given.0)) one_before given.1)) [
          | inl same ↦
              let ids : this.set ≡ asked.0 = ap (λ (x : Asking). x.set) same in
              let late : this.after ≡ asked.1 = ap (λ (x : Asking). x.after) same in
              let one : (this.set, this.after) ≡ asked = λ k. (ids k, late k) in
              subst (Contains (old ++ (this.set, this.after) ∷ [])) one
              (Contains-push old (this.set, this.after))
          | inr there ↦
              Contains-append_left old ((this.set, this.after) ∷ []) asked
              ((before asked).1 (given.0, there))
        ]),
  )

pub chosen_whole : (askings : List Asking) (positive : Bool) (count : ℕ) (chosen : Askings)
    → length askings ≤ count → AreChosen (drop (length askings - count) askings) positive chosen
    → AreChosen askings positive chosen
chosen_whole askings positive count chosen whole are =
    let none : length askings - count ≡ 0 = omega (arith, whole) in
    subst (λ k. AreChosen (drop k askings) positive chosen) none are
