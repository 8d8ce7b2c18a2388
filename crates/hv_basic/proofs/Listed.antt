-- The actions of an action set that is a list which rises.
use Rattle.std.proofs.Common.{◌≡◌, ◌↔◌, ℕ, zero, suc, ◌<◌, ◌≤◌, ◌+◌, ◌∙◌, ◌⊎◌, ◌++◌, true, false}
use Rattle.std.proofs.Common.{List, [], ◌∷◌, Option, Some, length, get_or, eqb, refl, sym, ap}
use Rattle.std.proofs.Common.{inl, inr, arith}
use Rattle.std.proofs.lemmas.Bool.{cases_lt, cond-false, cond-true, eq-eqb, eqb-true}
use Rattle.std.proofs.lemmas.Bool.{false_from_ne_true}
use Rattle.std.proofs.lemmas.List.{append-nil, get_or_default}
use Rattle.std.proofs.lemmas.List.Folds.{list_any_at}
use Rattle.std.proofs.lemmas.Map.Views.{Contains-from_any}
use Rattle.std.specs.List.{Contains, list_any}
use Rattle.std.specs.List.Sorted.{IsStrictlyIncreasing}
use Rattle.hv_task.proofs.Rising.{rises_apart, rises_upto}
use Rattle.hv_lines.specs.Meaning.{acts_of}
use Rattle.hv_lines.specs.Queries.{actions_below}
use Rattle.hv_lines.specs.declared.line.Line.{Line}

module _ (lines : List Line) (acts : ℕ) where
  -- an action that the set hasn't adds nothing
  pub none_more : (n : ℕ) → acts_of lines acts n ≡ false
      → actions_below lines acts (suc n) ≡ actions_below lines acts n
  none_more n is =
      ap (λ xs. actions_below lines acts n ++ xs)
      (cond-false (acts_of lines acts n) (Some n ∷ []) [] is)
      ∙ append-nil (actions_below lines acts n)

  pub one_more : (n : ℕ) → acts_of lines acts n ≡ true
      → actions_below lines acts (suc n) ≡ actions_below lines acts n ++ Some n ∷ []
  one_more n is =
      ap (λ xs. actions_below lines acts n ++ xs)
      (cond-true (acts_of lines acts n) (Some n ∷ []) [] is)

  -- the actions of the set are those that are listed
  pub listed_are : (listed : List ℕ)
      → acts_of lines acts ≡ (λ number. list_any (λ n. eqb n number) listed) → (number : ℕ)
      → (acts_of lines acts number ≡ true) ↔ Contains listed number
  listed_are listed meaning number = (
    λ has. Contains-from_any {eq = λ x y. eqb y x} (λ x y is. sym (eqb-true y x is)) number listed
        (sym (ap (λ f. f number) meaning) ∙ has),
    λ c. ap (λ f. f number) meaning
        ∙ list_any_at (λ n. eqb n number) listed c.0 number c.1
        (eq-eqb (get_or listed c.0 number) number c.2),
  )

  gap : (to from : ℕ) → from ≤ to
      → ((n : ℕ) → from ≤ n → n < to → acts_of lines acts n ≡ false)
      → actions_below lines acts to ≡ actions_below lines acts from
  gap zero from upto none =
      let same : zero ≡ from = omega (arith, upto) in ap (actions_below lines acts) same
  gap (suc to) from upto none =
      elim (cases_lt to from) [
        | inl less ↦
            let same : suc to ≡ from = omega (arith, less, upto) in
            ap (actions_below lines acts) same
        | inr past ↦
            none_more to (none to past (omega arith))
            ∙ gap to from past (λ n at less. none n at (omega (arith, less)))
      ]

  -- how far the list was gone through: the actions below the bound are there
  pub record IsListedTo (listed : List ℕ) (actions i : ℕ) (asked : List (Option ℕ)) : Type 0 where
    pub bound : ℕ
    pub within : bound ≤ actions
    pub same : asked ≡ actions_below lines acts bound
    pub past : (j : ℕ) → j < i → (get_or listed j 0 < bound) ⊎ (actions ≤ get_or listed j 0)
    pub ahead : (j : ℕ) → i ≤ j → j < length listed → bound ≤ get_or listed j 0

  pub listed_none : (listed : List ℕ) (actions i : ℕ) → i ≡ 0 → IsListedTo listed actions i []
  listed_none listed actions i start = record {
    bound = 0;
    within = omega arith;
    same = refl;
    past = λ j less. absurd (omega (arith, less, start));
    ahead = λ j upto within. omega arith;
  }

  module _ (listed : List ℕ) (rises : IsStrictlyIncreasing listed)
      (meaning : acts_of lines acts ≡ (λ number. list_any (λ n. eqb n number) listed))
      (actions : ℕ) where
    pub listed_at : (n : ℕ) → acts_of lines acts n ≡ true → Contains listed n
    listed_at n has =
        Contains-from_any {eq = λ x y. eqb y x} (λ x y is. sym (eqb-true y x is)) n listed
        (sym (ap (λ f. f n) meaning) ∙ has)

    pub had : (i : ℕ) → i < length listed → acts_of lines acts (get_or listed i 0) ≡ true
    had i within =
        ap (λ f. f (get_or listed i 0)) meaning
        ∙ list_any_at (λ n. eqb n (get_or listed i 0)) listed i 0 within
        (eq-eqb (get_or listed i 0) (get_or listed i 0) refl)

    -- from the bound up to the next one that is listed the set has none
    none_between : (i to : ℕ) (asked : List (Option ℕ))
        (is : IsListedTo listed actions i asked) → is.bound ≤ to → to ≤ actions
        → ((j : ℕ) → i ≤ j → j < length listed → to ≤ get_or listed j 0)
        → actions_below lines acts to ≡ asked
    none_between i to asked is upto few ahead =
        gap to is.bound upto (λ n at less. false_from_ne_true (acts_of lines acts n)
        (λ has. none n at less (listed_at n has)))
        ∙ sym is.same
      where
        none : (n : ℕ) → is.bound ≤ n → n < to → Contains listed n → ⊥
        none n at less c =
            let here : get_or listed c.0 0 ≡ n = get_or_default listed c.0 0 n c.1 ∙ c.2 in
            elim (cases_lt c.0 i) [
              | inl before ↦ elim (is.past c.0 before) [
                | inl below ↦ omega (arith, below, here, at)
                | inr out ↦ omega (arith, out, here, less, few)
              ]
              | inr later ↦
                  let next = ahead c.0 later c.1 in omega (arith, next, here, less)
            ]

    pub listed_more : (i action : ℕ) (old new : List (Option ℕ)) → i < length listed
        → action ≡ get_or listed i 0
        → (action < actions → new ≡ old ++ Some action ∷ []) → (actions ≤ action → new ≡ old)
        → IsListedTo listed actions i old → IsListedTo listed actions (i + 1) new
    listed_more i action old new within at put left is =
        elim (cases_lt action actions) [
          | inl less ↦ record {
            bound = action + 1;
            within = omega (arith, less);
            same =
                let begun : is.bound ≤ action =
                let h = is.ahead i (omega arith) within in omega (arith, h, at) in
                let all = none_between i action old is begun (omega (arith, less))
                (λ j upto below. let h = rises_upto listed i j rises upto below in
                omega (arith, h, at)) in
                let next : action + 1 ≡ suc action = omega arith in
                put less
                ∙ (ap (λ xs. xs ++ Some action ∷ []) (sym all)
                ∙ (sym (one_more action (ap (acts_of lines acts) at ∙ had i within))
                ∙ ap (actions_below lines acts) (sym next)));
            past = λ j upto. elim (cases_lt j i) [
              | inl before ↦ elim (is.past j before) [
                | inl below ↦
                    let h = is.ahead i (omega arith) within in inl (omega (arith, below, h, at))
                | inr out ↦ inr out
              ]
              | inr later ↦
                  let one : j ≡ i = omega (arith, upto, later) in
                  let here : get_or listed j 0 ≡ action =
                  ap (λ k. get_or listed k 0) one ∙ sym at in inl (omega (arith, here))
            ];
            ahead = λ j upto below.
                let h = rises_apart listed i j rises (omega (arith, upto)) below in
                omega (arith, h, at);
          }
          | inr out ↦ record {
            bound = is.bound;
            within = is.within;
            same = left out ∙ is.same;
            past = λ j upto. elim (cases_lt j i) [
              | inl before ↦ is.past j before
              | inr later ↦
                  let one : j ≡ i = omega (arith, upto, later) in
                  let here : get_or listed j 0 ≡ action =
                  ap (λ k. get_or listed k 0) one ∙ sym at in inr (omega (arith, here, out))
            ];
            ahead = λ j upto below. is.ahead j (omega (arith, upto)) below;
          }
        ]

    pub listed_whole : (i : ℕ) (asked : List (Option ℕ)) → length listed ≤ i
        → IsListedTo listed actions i asked → asked ≡ actions_below lines acts actions
    listed_whole i asked size is =
        sym (none_between i actions asked is is.within (omega arith)
        (λ j upto below. absurd (omega (arith, upto, below, size))))
