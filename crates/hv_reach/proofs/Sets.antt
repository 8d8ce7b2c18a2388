-- Sets of atoms with one more, and lists place by place.
use Rattle.std.proofs.Common.{◌≡◌, ℕ, suc, ◌+◌, ◌<◌, ◌≤◌, ◌∙◌, Bool, true, false, eqb, List, [], ◌∷◌}
use Rattle.std.proofs.Common.{length, set, get_or, refl, sym, ap, arith, inl, inr, subst, ◌⊎◌}
use Rattle.std.proofs.Common.{slice_get, Some}
use Rattle.std.proofs.lemmas.List.{length-set, get_or_default}
use Rattle.std.proofs.lemmas.Bool.{cases_eq, cond-true, cond-false, eq-eqb, ne_eqb}
use Rattle.std.specs.List.{All}
use Rattle.hv_task.specs.State.{has_atom}
use Rattle.hv_task.proofs.Places.{has_atom-set}
use Rattle.hv_task.proofs.Listing.{within_state}
use Rattle.hv_reach.specs.Working.Index.{IsInRest}
use Rattle.hv_reach.specs.Working.Waiting.{missing}

pub missing_set : (s : List Bool) (p : ℕ) → p < length s → has_atom s p ≡ false
    → missing (set s p true) + 1 ≡ missing s
missing_set [] p less h = absurd (omega arith)
missing_set (true ∷ s) Prim.Native.Nat.zero less h = absurd cc
missing_set (false ∷ s) Prim.Native.Nat.zero less h = omega arith
missing_set (true ∷ s) (suc p) less h = missing_set s p (omega arith) h
missing_set (false ∷ s) (suc p) less h = let e = missing_set s p (omega arith) h in omega arith

-- an atom of the state with one more
pub set_cases : (s : List Bool) (q p : ℕ) → q < length s → has_atom (set s q true) p ≡ true
    → (has_atom s p ≡ true) ⊎ (q ≡ p)
set_cases s q p less h =
    elim (cases_eq q p) [
      | inl e ↦ inr e
      | inr e ↦
          let within : p < length (set s q true) = within_state (set s q true) p h in
          let below : p < length s = omega (arith, length-set s q true) in
          inl (sym (has_atom-set s q p true below
          ∙ cond-false (eqb q p) true (has_atom s p) (ne_eqb q p e)) ∙ h)
    ]

pub set_has : (s : List Bool) (q : ℕ) → q < length s → has_atom (set s q true) q ≡ true
set_has s q less = has_atom-set s q q true less
    ∙ cond-true (eqb q q) true (has_atom s q) (eq-eqb q q refl)

pub set_grows : (s : List Bool) (q p : ℕ) → q < length s → has_atom s p ≡ true
    → has_atom (set s q true) p ≡ true
set_grows s q p less h =
    has_atom-set s q p true (within_state s p h)
    ∙ elim (cases_eq q p) [
      | inl e ↦ cond-true (eqb q p) true (has_atom s p) (eq-eqb q p e)
      | inr e ↦ cond-false (eqb q p) true (has_atom s p) (ne_eqb q p e) ∙ h
    ]

pub All-from_zero : (P : ℕ → Type 0) (xs : List ℕ) → ((k : ℕ) → k < length xs → P (get_or xs k 0))
    → All P xs
All-from_zero P xs h = λ k d less. subst P (get_or_default xs k 0 d less) (h k less)

pub slice_get_at : {X : Type 0} (xs : List X) (i : ℕ) (x : X) → i < length xs → x ≡ get_or xs i x
    → slice_get xs i ≡ Some x
slice_get_at [] i x less e = absurd (omega arith)
slice_get_at (y ∷ xs) Prim.Native.Nat.zero x less e = ap Some (sym e)
slice_get_at (y ∷ xs) (suc i) x less e = slice_get_at xs i x (omega arith) e

pub empty_list : (xs : List ℕ) → length xs ≡ 0 → xs ≡ []
empty_list [] e = refl
empty_list (x ∷ xs) e = absurd (omega arith)

-- what is left of a list and isn't its next item is left after it
pub rest_later : (numbers : List ℕ) (i x k : ℕ) → x ≡ get_or numbers i 0 → (k ≡ x → ⊥)
    → IsInRest numbers i k → IsInRest numbers (i + 1) k
rest_later numbers i x k e other left = (left.0, later, left.2, left.3)
  where
    later : i + 1 ≤ left.0
    later =
        elim (cases_eq i left.0) [
          | inl same ↦ absurd (other (sym left.3
              ∙ (ap (λ j. get_or numbers j 0) (sym same) ∙ sym e)))
          | inr differ ↦ let f = left.1 in omega arith
        ]
