-- The atoms that a state holds, as a list that rises.
use Rattle.std.proofs.Common.{◌≡◌, ℕ, ◌+◌, ◌<◌, ◌↔◌, Bool, true, List, [], ◌∷◌, ◌++◌, Some}
use Rattle.std.proofs.Common.{None, length, get_or, arith, inl, inr, subst}
use Rattle.std.proofs.lemmas.Bool.{both_ways, cases_lt}
use Rattle.std.proofs.lemmas.List.{get_or_push, get_or_append_left, length_push}
use Rattle.std.proofs.lemmas.List.Elements.{Contains-get_or, Contains-append_left, Contains-push}
use Rattle.std.proofs.lemmas.List.Elements.{Contains-push_cases}
use Rattle.std.specs.List.{Contains}
use Rattle.std.specs.List.Sorted.{IsStrictlyIncreasing}
use Rattle.hv_task.specs.AtomList.{IsListOf}
use Rattle.hv_task.specs.Atoms.{IsNext, Lists}
use Rattle.hv_task.specs.State.{has_atom}
use Rattle.hv_task.proofs.Places.{has_atom_past}

-- a greater atom at the end keeps a list rising
pub rises-push : (xs : List ℕ) (i : ℕ) → IsStrictlyIncreasing xs
    → ((k : ℕ) → k < length xs → get_or xs k 0 < i)
    → IsStrictlyIncreasing (xs ++ i ∷ [])
rises-push xs i rises below k within =
    let size = length_push xs i in
    let here : get_or (xs ++ i ∷ []) k 0 ≡ get_or xs k 0 = get_or_append_left xs (i ∷ []) 0 k
    (omega arith) in
    elim (cases_lt (k + 1) (length xs)) [
      | inl less ↦
          let next : get_or (xs ++ i ∷ []) (k + 1) 0
          ≡ get_or xs (k + 1) 0 = get_or_append_left xs (i ∷ []) 0 (k + 1) less in
          let rise = rises k less in omega arith
      | inr last ↦
          let next : get_or (xs ++ i ∷ []) (k + 1) 0
          ≡ i = get_or_push xs i 0 (k + 1) (omega arith) in
          let less = below k (omega arith) in omega arith
    ]

module _ (set : ℕ → Bool) where
  pub lists_none : Lists set 0 []
  lists_none = record {
    rises = λ k within. absurd (omega arith);
    has = λ a. (λ c. absurd (omega (arith, c.1)), λ f. absurd (omega (arith, f.0)));
  }

  -- the next atom, put last
  pub lists_next : (from : ℕ) (xs : List ℕ) (a : ℕ) → Lists set from xs → IsNext set from (Some a)
      → Lists set (a + 1) (xs ++ a ∷ [])
  lists_next from xs a lists next = record {
    rises = rises-push xs a lists.rises (λ k within. let f = (lists.has (get_or xs k 0)).0
        (Contains-get_or xs k 0 within) in omega (arith, f.0, next.0));
    has = λ b. (
      λ c. elim (Contains-push_cases xs a b c) [
        | inl old ↦ let f = (lists.has b).0 old in (omega (arith, f.0, next.0), f.1)
        | inr e ↦ (omega (arith, e), subst (λ p. set p ≡ true) e next.1)
      ],
      λ f. elim (cases_lt b from) [
        | inl less ↦ Contains-append_left xs (a ∷ []) b ((lists.has b).1 (less, f.1))
        | inr upto ↦
            elim (cases_lt b a) [
              | inl less ↦ absurd (both_ways (set b) (next.2 b upto less) f.1)
              | inr last ↦ let same : a ≡ b = omega (arith, f.0) in
                  subst (λ p. Contains (xs ++ a ∷ []) p) same (Contains-push xs a)
            ]
      ],
    );
  }

  -- no next atom: the list has all
  pub lists_all : (from : ℕ) (xs : List ℕ) → Lists set from xs → IsNext set from None → (a : ℕ)
      → Contains xs a ↔ (set a ≡ true)
  lists_all from xs lists next a = (
    λ c. ((lists.has a).0 c).1,
    λ e. elim (cases_lt a from) [
      | inl less ↦ (lists.has a).1 (less, e)
      | inr upto ↦ absurd (both_ways (set a) (next a upto) e)
    ],
  )

-- what a state holds is an atom of its task
pub within_state : (state : List Bool) (a : ℕ) → has_atom state a ≡ true → a < length state
within_state state a held =
    elim (cases_lt a (length state)) [
      | inl less ↦ less
      | inr past ↦ absurd (both_ways (has_atom state a) (has_atom_past state a past) held)
    ]

-- no next atom of a state: the list has all that it holds
pub lists_state : (state : List Bool) (from : ℕ) (xs : List ℕ) → Lists (has_atom state) from xs
    → IsNext (has_atom state) from None → IsListOf state xs
lists_state state from xs lists next = record {
  rises = lists.rises;
  has = λ a.
      let all = lists_all (has_atom state) from xs lists next a in
      (λ c. let held = all.0 c in (within_state state a held, held), λ f. all.1 f.1);
}
