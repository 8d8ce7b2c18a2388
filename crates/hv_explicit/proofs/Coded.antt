-- Sets of atoms by their lists, and the codes of these.
use Rattle.std.proofs.Common.{is_some, not, eqb, ◌≡◌, ℕ, ◌<◌, ◌≤◌, ◌↔◌, ◌∙◌, Bool, true, false}
use Rattle.std.proofs.Common.{List, [], ◌∷◌, ◌++◌, Option, Some, None, length, get_or, take, refl}
use Rattle.std.proofs.Common.{sym, ap, arith, inl, inr}
use Rattle.std.specs.Option.{option_eq}
use Rattle.std.proofs.lemmas.Bool.{eqb-true, eq-eqb, cases_lt, cases_order, both_ways}
use Rattle.std.proofs.lemmas.Bool.Decides.{same_from_decides}
use Rattle.std.proofs.lemmas.List.{get_or_default, get_or-take, length-take}
use Rattle.std.proofs.lemmas.List.Elements.{Contains-get_or}
use Rattle.std.specs.List.{Contains}
use Rattle.std.specs.List.Sorted.{IsStrictlyIncreasing}
use Rattle.hv_task.specs.State.{names_atom}
use Rattle.hv_task.proofs.Places.{names_atom-Decides}
use Rattle.hv_task.proofs.Rising.{rises_apart}
use Rattle.std.specs.declared.hash.DefaultHasher.{DefaultHasher}
use Rattle.hv_task.specs.Atoms.{IsNext, Lists}
use Rattle.hv_task.proofs.Listing.{lists_all}
use Rattle.hv_explicit.specs.Codes.{IsBelow}
use Rattle.hv_explicit.specs.Working.Codes.{IsSip, IsSame, sip_of, with_atom, with_atoms}

-- one atom more
pub with_push : (hasher : DefaultHasher) (held : List ℕ) (atom : ℕ)
    → with_atoms hasher (held ++ atom ∷ []) ≡ with_atom (with_atoms hasher held) atom
with_push hasher [] atom = refl
with_push hasher (a ∷ held) atom = with_push (with_atom hasher a) held atom

module _ (test : ℕ → Bool) where
  -- between a test and a list
  pub same_from : (xs : List ℕ) → ((a : ℕ) → Contains xs a ↔ (test a ≡ true)) → IsSame test xs
  same_from xs all p = sym (same_from_decides (names_atom xs p) (test p) (names_atom-Decides xs p)
      (λ e. (all p).1 e, λ c. (all p).0 c))

  pub into_same : (xs : List ℕ) (a : ℕ) → IsSame test xs → Contains xs a → test a ≡ true
  into_same xs a same c = same a ∙ (names_atom-Decides xs a).1 c

  pub from_same : (xs : List ℕ) (a : ℕ) → IsSame test xs → test a ≡ true → Contains xs a
  from_same xs a same e = (names_atom-Decides xs a).0 (sym (same a) ∙ e)

-- the list goes on with another atom than the set
pub other_next : (test : ℕ → Bool) (from : ℕ) (xs : List ℕ) (i : ℕ) (next : Option ℕ)
    → IsStrictlyIncreasing xs → i < length xs
    → Lists test from (take i xs) → IsNext test from next → (next ≡ Some (get_or xs i 0) → ⊥)
    → IsSame test xs → ⊥
other_next test from xs i next rises within lists is other same =
    let here = into_same test xs (get_or xs i 0) same (Contains-get_or xs i 0 within) in
    elim (cases_lt (get_or xs i 0) from) [
      | inl less ↦
          let front = (lists.has (get_or xs i 0)).1 (less, here) in
          let size = length-take i xs in
          let place : front.0 < i = omega (arith, front.1) in
          let apart = rises_apart xs front.0 i rises place within in
          let e : get_or xs front.0 0 ≡ get_or xs i 0 =
          get_or_default xs front.0 0 (get_or xs i 0) (omega arith)
          ∙ (sym (get_or-take i xs front.0 (get_or xs i 0) place) ∙ front.2) in
          absurd (omega arith)
      | inr upto ↦ by next is other upto
    ]
  where
    by : (o : Option ℕ) → IsNext test from o → (o ≡ Some (get_or xs i 0) → ⊥) → from ≤ get_or xs i 0
        → ⊥
    by None none ne upto = both_ways (test (get_or xs i 0)) (none (get_or xs i 0) upto)
        (into_same test xs (get_or xs i 0) same (Contains-get_or xs i 0 within))
    by (Some a) some ne upto =
        let c = from_same test xs a same some.1 in
        elim (cases_order (get_or xs i 0) a) [
          | inl e ↦ ne (ap (λ x. Some x) (sym e))
          | inr (inl less) ↦ both_ways (test (get_or xs i 0)) (some.2 (get_or xs i 0) upto less)
              (into_same test xs (get_or xs i 0) same (Contains-get_or xs i 0 within))
          | inr (inr more) ↦
              elim (cases_lt c.0 i) [
                | inl before ↦
                    let size = length-take i xs in
                    let front : Contains (take i xs) a =
                    (c.0, omega arith, get_or-take i xs c.0 a before ∙ c.2) in
                    let f = (lists.has a).0 front in absurd (omega (arith, f.0, some.0))
                | inr after ↦
                    elim (cases_order c.0 i) [
                      | inl at ↦
                          let e : get_or xs c.0 0 ≡ a = get_or_default xs c.0 0 a c.1 ∙ c.2 in
                          let e2 = ap (λ k. get_or xs k 0) at in absurd (omega arith)
                      | inr (inl less) ↦ absurd (omega arith)
                      | inr (inr greater) ↦
                          let e : get_or xs c.0 0 ≡ a = get_or_default xs c.0 0 a c.1 ∙ c.2 in
                          let apart = rises_apart xs i c.0 rises greater c.1 in absurd (omega arith)
                    ]
              ]
        ]

-- the list ends where the set goes on
pub other_end : (test : ℕ → Bool) (from : ℕ) (xs : List ℕ) (a : ℕ) → Lists test from xs
    → IsNext test from (Some a) → IsSame test xs → ⊥
other_end test from xs a lists is same =
    let f = (lists.has a).0 (from_same test xs a same is.1) in omega (arith, f.0, is.0)

-- the next atom is below what all are below
pub below_from_next : (test : ℕ → Bool) (atoms from a : ℕ) → IsBelow atoms test
    → IsNext test from (Some a) → a < atoms
below_from_next test atoms from a below next =
    elim (cases_lt a atoms) [
      | inl less ↦ less
      | inr past ↦ absurd
          (both_ways (test a) (below a past) next.1)
    ]

-- the test for an atom
pub is_some_at : (next : Option ℕ) (x : ℕ) → option_eq eqb next (Some x) ≡ true → next ≡ Some x
is_some_at None x e = let f : false ≡ true = e in absurd cc
is_some_at (Some a) x e = ap (λ b. Some b) (eqb-true a x e)

pub is_other_at : (next : Option ℕ) (x : ℕ) → option_eq eqb next (Some x) ≡ false → next ≡ Some x
    → ⊥
is_other_at None x e f = let g : None ≡ Some x = f in absurd cc
is_other_at (Some a) x e f = let same : a ≡ x = cc in both_ways (eqb a x) e (eq-eqb a x same)

-- at the end of the list
pub same_at_end : (test : ℕ → Bool) (from : ℕ) (xs : List ℕ) (next : Option ℕ) (none : Bool)
    → Lists test from xs → IsNext test from next
    → is_some next ≡ not none → ((none ≡ true → IsSame test xs) × (IsSame test xs → none ≡ true))
same_at_end test from xs None true lists is e =
    (λ _. same_from test xs (lists_all test from xs lists is), λ _. refl)
same_at_end test from xs None false lists is e = let f : false ≡ true = e in absurd cc
same_at_end test from xs (Some a) true lists is e = let f : true ≡ false = e in absurd cc
same_at_end test from xs (Some a) false lists is e = (
  λ f. let g : false ≡ true = f in absurd cc,
  λ same. absurd
      (other_end test from xs a lists is same),
)

-- the code of a list that rises is that of its set
pub sip_of_list : (xs : List ℕ) (code : ℕ) → IsStrictlyIncreasing xs → code ≡ sip_of xs
    → IsSip (names_atom xs) code
sip_of_list xs code rises is = (
  xs,
  rises,
  λ a.
      (λ c. (names_atom-Decides xs a).1 c, λ e. (names_atom-Decides xs a).0 e),
  is,
)
