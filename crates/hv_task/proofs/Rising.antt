-- Lists that rise: an atom put in, and two lists with the same atoms.
use Rattle.std.proofs.Common.{◌≡◌, ℕ, suc, ◌+◌, ◌-◌, ◌<◌, ◌≤◌, ◌∙◌, ◌⊎◌, ◌↔◌, List, [], ◌∷◌, ◌++◌}
use Rattle.std.proofs.Common.{length, get_or, take, drop, refl, sym, ap, arith, inl, inr, Result}
use Rattle.std.proofs.Common.{Err, subst, add-one}
use Rattle.std.proofs.lemmas.Bool.{cases_lt, cases_order}
use Rattle.std.proofs.lemmas.List.{get_or_default, take-append-drop}
use Rattle.std.proofs.lemmas.List.Edits.{length-insert, get_or-insert_below, get_or-insert_at}
use Rattle.std.proofs.lemmas.List.Edits.{get_or-insert_above}
use Rattle.std.proofs.lemmas.List.Elements.{Contains-get_or, All-contains, Contains-append_left}
use Rattle.std.proofs.lemmas.List.Elements.{Contains-append_right, Contains-append_cases}
use Rattle.std.proofs.lemmas.List.Elements.{Contains-push_cases}
use Rattle.std.proofs.lemmas.List.Sorted.{searched}
use Rattle.std.proofs.lemmas.Map.Keys.{sorted_from_strictly_increasing, below_from_sorted}
use Rattle.std.specs.List.{Contains, insert}
use Rattle.std.specs.List.Sorted.{IsStrictlyIncreasing, IsBinarySearchResult}
use Rattle.std.specs.Ordering.{nat_cmp}
use Rattle.hv_task.specs.AtomList.{Inserts}
use Rattle.hv_task.specs.Working.AtomList.{IsPlaceOf}
use Rattle.hv_task.specs.State.{AreBelow}

-- in a list that rises, what stands later is greater
pub rises_apart : (xs : List ℕ) (i j : ℕ) → IsStrictlyIncreasing xs → i < j → j < length xs
    → get_or xs i 0 < get_or xs j 0
rises_apart xs i j rises less within = below_from_sorted xs i j 0
    (sorted_from_strictly_increasing xs rises) less within

pub rises_upto : (xs : List ℕ) (i j : ℕ) → IsStrictlyIncreasing xs → i ≤ j → j < length xs
    → get_or xs i 0 ≤ get_or xs j 0
rises_upto xs i j rises upto within =
    elim (cases_lt i j) [
      | inl less ↦ let below = rises_apart xs i j rises less within in omega arith
      | inr equal ↦ let same : i ≡ j = omega arith in let e = ap (λ k. get_or xs k 0) same in
          omega arith
    ]

-- what a binary search finds
pub place_from_search : (xs : List ℕ) (x : ℕ) (r : Result ℕ ℕ) → IsStrictlyIncreasing xs
    → IsBinarySearchResult (λ y. nat_cmp y x) xs r
    → IsPlaceOf xs x r
place_from_search xs x r rises found = searched xs x r found
    (λ i j upto within. rises_upto xs i j rises upto within)

-- an atom that is greater than the last belongs at the end
pub place_at_end : (xs : List ℕ) (x : ℕ) → IsStrictlyIncreasing xs
    → (0 < length xs → get_or xs (length xs - 1) 0 < x)
    → IsPlaceOf xs x (Err (length xs))
place_at_end xs x rises last = (
  omega arith,
  λ k below. let within : length xs - 1 < length xs = omega arith in
      let upto = rises_upto xs k (length xs - 1) rises (omega arith) within in
      let greater = last (omega arith) in omega arith,
  λ k from below. absurd (omega arith),
)

-- an element stands somewhere in the list
at_place : (xs : List ℕ) (x : ℕ) → Contains xs x → (k : ℕ) × (k < length xs) × (get_or xs k 0 ≡ x)
at_place xs x c = (c.0, c.1, get_or_default xs c.0 0 x c.1 ∙ c.2)

from_place : (xs : List ℕ) (x k : ℕ) → k < length xs → get_or xs k 0 ≡ x → Contains xs x
from_place xs x k within e = (k, within, get_or_default xs k x 0 within ∙ e)

module _ (xs : List ℕ) (i x : ℕ) (fits : i ≤ length xs) where
  -- after an insert the list has what it had, and the new element
  has-insert : (a : ℕ) → Contains (insert xs i x) a ↔ (Contains xs a ⊎ (a ≡ x))
  has-insert a = (
    λ c. elim (Contains-append_cases (take i xs) (x ∷ drop i xs) a c) [
      | inl front ↦ inl (subst (λ l. Contains l a) (take-append-drop i xs)
          (Contains-append_left (take i xs) (drop i xs) a front))
      | inr back ↦
          elim (Contains-append_cases (x ∷ []) (drop i xs) a back) [
            | inl alone ↦ elim (Contains-push_cases [] x a alone)
                [ inl none ↦ absurd (omega (arith, none.1)) | inr e ↦ inr (sym e) ]
            | inr rest ↦ inl (subst (λ l. Contains l a) (take-append-drop i xs)
                (Contains-append_right (take i xs) (drop i xs) a rest))
          ]
    ],
    λ e. elim e [
      | inl old ↦
          let parts : Contains (take i xs ++ drop i xs) a = subst
          (λ l. Contains l a) (sym (take-append-drop i xs)) old in
          elim (Contains-append_cases (take i xs) (drop i xs) a parts) [
            | inl front ↦ Contains-append_left (take i xs) (x ∷ drop i xs) a front
            | inr back ↦ Contains-append_right (take i xs) (x ∷ drop i xs) a
                (Contains-append_right (x ∷ []) (drop i xs) a back)
          ]
      | inr same ↦ from_place (insert xs i x) a i (omega (arith, length-insert xs i x fits))
          (get_or-insert_at xs i x 0 fits ∙ sym same)
    ],
  )

  -- an insert between what is less and what is greater keeps a list rising
  rises-insert : IsStrictlyIncreasing xs → ((k : ℕ) → k < i → get_or xs k 0 < x)
      → ((k : ℕ) → i ≤ k → k < length xs → x < get_or xs k 0)
      → IsStrictlyIncreasing (insert xs i x)
  rises-insert rises before after k within =
      let size = length-insert xs i x fits in
      elim (cases_order (k + 1) i) [
        | inl equal ↦
            let here = get_or-insert_below xs i x 0 k (omega arith) fits in
            let next = ap (λ j. get_or (insert xs i x) j 0) equal
            ∙ get_or-insert_at xs i x 0 fits in
            let less = before k (omega arith) in omega arith
        | inr (inl less) ↦
            let here = get_or-insert_below xs i x 0 k (omega arith) fits in
            let next = get_or-insert_below xs i x 0 (k + 1) less fits in
            let rise = rises k (omega arith) in omega arith
        | inr (inr greater) ↦
            let next = get_or-insert_above xs i x 0 k (omega arith) fits in
            elim (cases_lt i k) [
              | inl less ↦
                  let one_less : k - 1 + 1 ≡ k = omega arith in
                  let here = sym (ap (λ j. get_or (insert xs i x) j 0) one_less)
                  ∙ get_or-insert_above xs i x 0 (k - 1) (omega arith) fits in
                  let same = ap (λ j. get_or xs j 0) one_less in
                  let rise = rises (k - 1) (omega arith) in omega arith
              | inr upto ↦
                  let equal : k ≡ i = omega arith in
                  let here = ap (λ j. get_or (insert xs i x) j 0) equal
                  ∙ get_or-insert_at xs i x 0 fits in
                  let greater_here = after k (omega arith) (omega arith) in omega arith
            ]
      ]

-- an atom put in at its place
pub Inserts-insert : (xs : List ℕ) (x i : ℕ) → IsStrictlyIncreasing xs → IsPlaceOf xs x (Err i)
    → Inserts xs x (insert xs i x)
Inserts-insert xs x i rises place =
    record {
      rises = rises-insert xs i x place.0 rises place.1 place.2;
      has = has-insert xs i x
          place.0;
    }

-- an atom that belongs somewhere isn't there
pub absent_from_place : (xs : List ℕ) (x i : ℕ) → IsPlaceOf xs x (Err i) → Contains xs x → ⊥
absent_from_place xs x i place c =
    let at = at_place xs x c in
    elim (cases_lt at.0 i) [
      | inl less ↦ let below = place.1 at.0 less in let e = at.2 in absurd (omega arith)
      | inr upto ↦ let above = place.2 at.0 upto at.1 in let e = at.2 in absurd (omega arith)
    ]

-- the rest of a list that rises does
pub rises-tail : (x : ℕ) (xs : List ℕ) → IsStrictlyIncreasing (x ∷ xs) → IsStrictlyIncreasing xs
rises-tail x xs rises k within =
    let one_more : suc k + 1 < length (x ∷ xs) = omega arith in
    let less = rises (suc k) one_more in
    let e : get_or (x ∷ xs) (suc k + 1) 0 ≡ get_or xs (k + 1) 0 = rw (add-one, add-one) in
    omega arith

-- the first of a list that rises is its least
first_least : (x : ℕ) (xs : List ℕ) → IsStrictlyIncreasing (x ∷ xs) → (a : ℕ) → Contains xs a
    → x < a
first_least x xs rises a c =
    let at = at_place xs a c in
    let less = rises_apart (x ∷ xs) 0 (suc at.0) rises (omega arith) (omega (arith, at.1)) in
    let e = at.2 in omega arith

Contains-tail : (x a : ℕ) (xs : List ℕ) → Contains (x ∷ xs) a → (a ≡ x) ⊎ Contains xs a
Contains-tail x a xs c =
    elim (Contains-append_cases (x ∷ []) xs a c) [
      | inl alone ↦ elim (Contains-push_cases [] x a alone)
          [ inl none ↦ absurd (omega (arith, none.1)) | inr e ↦ inl (sym e) ]
      | inr rest ↦ inr rest
    ]

Contains-first : (x : ℕ) (xs : List ℕ) → Contains (x ∷ xs) x
Contains-first x xs = from_place (x ∷ xs) x 0 (omega arith) refl

Contains-later : (x a : ℕ) (xs : List ℕ) → Contains xs a → Contains (x ∷ xs) a
Contains-later x a xs c = Contains-append_right (x ∷ []) xs a c

-- two lists that rise and have the same elements are one
pub same_rising : (xs ys : List ℕ) → IsStrictlyIncreasing xs → IsStrictlyIncreasing ys
    → ((a : ℕ) → Contains xs a → Contains ys a)
    → ((a : ℕ) → Contains ys a → Contains xs a) → xs ≡ ys
same_rising [] [] rises also into from = refl
same_rising [] (y ∷ ys) rises also into from = let none = from y (Contains-first y ys) in
    absurd (omega (arith, none.1))
same_rising (x ∷ xs) [] rises also into from = let none = into x (Contains-first x xs) in
    absurd (omega (arith, none.1))
same_rising (x ∷ xs) (y ∷ ys) rises also into from =
    let same : x ≡ y =
    elim (Contains-tail y x ys (into x (Contains-first x xs))) [
      | inl e ↦ e
      | inr later ↦
          elim (Contains-tail x y xs (from y (Contains-first y ys))) [
            | inl e ↦ sym e
            | inr later_too ↦
                let a = first_least y ys also x later in
                let b = first_least x xs rises y later_too in absurd (omega arith)
          ]
    ] in
    let rest : xs ≡ ys =
    same_rising xs ys (rises-tail x xs rises) (rises-tail y ys also)
    (λ a c. elim (Contains-tail y a ys (into a (Contains-later x a xs c))) [
      | inl e ↦ let less = first_least x xs rises a c in absurd (omega arith)
      | inr later ↦ later
    ])
    (λ a c. elim (Contains-tail x a xs (from a (Contains-later y a ys c))) [
      | inl e ↦ let less = first_least y ys also a c in absurd (omega arith)
      | inr later ↦ later
    ]) in
    ap (λ z. z ∷ xs) same ∙ ap (λ zs. y ∷ zs) rest

-- an atom put in keeps a list below a bound that the atom is below
pub AreBelow-Inserts : (bound : ℕ) (old : List ℕ) (x : ℕ) (new : List ℕ) → Inserts old x new
    → AreBelow bound old → x < bound → AreBelow bound new
AreBelow-Inserts bound old x new inserts below less = λ k d within.
    elim ((inserts.has (get_or new k d)).0 (Contains-get_or new k d within)) [
      | inl had ↦ All-contains (λ n. n < bound) old (get_or new k d) below had
      | inr e ↦ omega (arith, e)
    ]
