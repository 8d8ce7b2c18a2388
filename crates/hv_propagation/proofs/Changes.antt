-- Laws of effects: what is known of an atom that is added or deleted.
use Rattle.std.proofs.Common.{◌≡◌, ℕ, zero, suc, ◌<◌, ◌∙◌, ◌⊎◌, Bool, true, false, List, [], ◌∷◌}
use Rattle.std.proofs.Common.{length, replicate, get_or, None, Some, refl, sym, ap, arith, inl, inr}
use Rattle.std.proofs.lemmas.Bool.{cases_eq}
use Rattle.std.proofs.lemmas.List.{length-set}
use Rattle.std.proofs.lemmas.List.Elements.{All-contains}
use Rattle.std.specs.List.{Contains}
use Rattle.hv_task.specs.State.{AreBelow}
use Rattle.hv_propagation.specs.Working.Effect.{effect_of, overwrite}
use Rattle.hv_propagation.specs.Marks.{known, mark_for}
use Rattle.hv_propagation.proofs.Effects.{length-overwrite}
use Rattle.hv_propagation.proofs.Trailed.{known-replicate}
use Rattle.hv_propagation.specs.Working.Laws.{known-set_other, known-set_same}
use Rattle.hv_propagation.proofs.Trailed.{length-zeros}
use Rattle.std.specs.Prelude.{slice_set}

-- an atom is in a list or not
pub among_or : (xs : List ℕ) (p : ℕ) → Contains xs p ⊎ (Contains xs p → ⊥)
among_or [] p = inr (λ has. omega (arith, has.1))
among_or (x ∷ xs) p =
    elim (cases_eq x p) [
      | inl same ↦ inl (0, omega arith, same)
      | inr other ↦
          elim (among_or xs p) [
            | inl has ↦ inl (suc has.0, omega (arith, has.1), has.2)
            | inr none ↦ inr (λ has. at has.0 has.1 has.2 other none)
          ]
    ]
  where
    at : (k : ℕ) → k < length (x ∷ xs) → get_or (x ∷ xs) k p ≡ p → (x ≡ p → ⊥) → (Contains xs p → ⊥)
        → ⊥
    at zero less is other none = other is
    at (suc k) less is other none = none (k, omega arith, is)

pub known-overwrite_out : (value : Bool) (xs m : List ℕ) (p : ℕ) → (Contains xs p → ⊥)
    → known (overwrite value xs m) p ≡ known m p
known-overwrite_out value [] m p none = refl
known-overwrite_out value (x ∷ xs) m p none =
    known-overwrite_out value xs (slice_set m x (mark_for value)) p
    (λ has. none (suc has.0, omega (arith, has.1), has.2))
    ∙ known-set_other m x p value (λ e. none (0, omega arith, sym e))

pub known-overwrite_in : (value : Bool) (xs m : List ℕ) (p : ℕ) → p < length m → Contains xs p
    → known (overwrite value xs m) p ≡ Some value
known-overwrite_in value [] m p less has = absurd (omega (arith, has.1))
known-overwrite_in value (x ∷ xs) m p less has =
    elim (among_or xs p) [
      | inl later ↦ known-overwrite_in value xs (slice_set m x (mark_for value)) p
          (let e = length-set m x (mark_for value) in omega arith) later
      | inr none ↦
          known-overwrite_out value xs (slice_set m x (mark_for value)) p none
          ∙ (ap (known (slice_set m x (mark_for value))) (sym (first has.0 has.1 has.2 none))
          ∙ known-set_same m x value
          (let e = first has.0 has.1 has.2 none in omega arith))
    ]
  where
    first : (k : ℕ) → k < length (x ∷ xs) → get_or (x ∷ xs) k p ≡ p → (Contains xs p → ⊥) → x ≡ p
    first zero less is none = is
    first (suc k) less is none = absurd (none (k, omega arith, is))

module _ (atoms : ℕ) (add del : List ℕ) where
  pub added : AreBelow atoms add → (p : ℕ) → Contains add p
      → known (effect_of atoms add del) p ≡ Some true
  added below p has =
      let size = length-overwrite false del (replicate atoms 0) in
      let zeros = length-zeros atoms in
      let less = All-contains (λ a. a < atoms) add p below has in
      known-overwrite_in true add (overwrite false del (replicate atoms 0)) p (omega arith) has

  pub deleted : AreBelow atoms del → (p : ℕ) → (Contains add p → ⊥) → Contains del p
      → known (effect_of atoms add del) p ≡ Some false
  deleted below p none has =
      let zeros = length-zeros atoms in
      let less = All-contains (λ a. a < atoms) del p below has in
      known-overwrite_out true add (overwrite false del (replicate atoms 0)) p none
      ∙ known-overwrite_in false del (replicate atoms 0) p (omega arith) has

  pub left_alone : (p : ℕ) → (Contains add p → ⊥) → (Contains del p → ⊥)
      → known (effect_of atoms add del) p ≡ None
  left_alone p none none_too =
      known-overwrite_out true add (overwrite false del (replicate atoms 0)) p none
      ∙ (known-overwrite_out false del (replicate atoms 0) p none_too ∙ known-replicate atoms p)

  -- so what is put in is added, and what is put out is deleted
  pub added_from : AreBelow atoms del → (p : ℕ) → known (effect_of atoms add del) p ≡ Some true
      → Contains add p
  added_from below p e =
      elim (among_or add p) [
        | inl has ↦ has
        | inr none ↦
            elim (among_or del p) [
              | inl has ↦ let no = deleted below p none has in absurd (cc)
              | inr none_too ↦ let no = left_alone p none none_too in absurd (cc)
            ]
      ]

  pub deleted_from : AreBelow atoms add → (p : ℕ) → known (effect_of atoms add del) p ≡ Some false
      → Contains del p
  deleted_from below p e =
      elim (among_or add p) [
        | inl has ↦ let no = added below p has in absurd (cc)
        | inr none ↦
            elim (among_or del p) [
              | inl has ↦ has
              | inr none_too ↦ let no = left_alone p none none_too in absurd (cc)
            ]
      ]

  pub length-effect : length (effect_of atoms add del) ≡ atoms
  length-effect = length-overwrite true add (overwrite false del (replicate atoms 0))
      ∙ (length-overwrite false del (replicate atoms 0) ∙ length-zeros atoms)
