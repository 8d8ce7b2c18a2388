-- The next atom of a set: of a list, of a list without some atoms, of words.
use Rattle.std.proofs.Common.{◌≡◌, ℕ, ◌<◌, ◌≤◌, ◌⊎◌, ◌∙◌, ◌-◌, ◌+◌, ◌*◌, ◌/◌, ◌%◌, ◌↔◌, eqb, sym}
use Rattle.std.proofs.Common.{not, Bool, true, false, List, Option, Some, None, Result, Ok, Err}
use Rattle.std.proofs.Common.{length, get_or, ap, arith, inl, inr}
use Rattle.std.proofs.lemmas.Bool.{eq-eqb, cases_lt, cases_order, false_from_ne_true, and_parts}
use Rattle.std.proofs.lemmas.Bool.{and_from, not-true, not_from_false}
use Rattle.std.proofs.lemmas.List.{get_or_default}
use Rattle.std.proofs.lemmas.List.Elements.{Contains-get_or}
use Rattle.std.specs.List.{Contains}
use Rattle.std.specs.List.Sorted.{IsStrictlyIncreasing}
use Rattle.hv_task.specs.Working.AtomList.{IsFirstFrom, IsPlaceOf}
use Rattle.hv_task.specs.State.{names_atom}
use Rattle.hv_task.proofs.Places.{names_atom-Decides}
use Rattle.hv_task.proofs.Rising.{rises_apart, rises_upto}
use Rattle.std.specs.Int.{bit_at}
use Rattle.hv_task.specs.Working.Words.{IsNextBit, flag_at}
use Rattle.hv_task.proofs.Flags.{at_place}
use Rattle.hv_task.specs.Atoms.{IsNext, is_kept}

-- what isn't in a list isn't named by it
pub unnamed : (xs : List ℕ) (p : ℕ) → (Contains xs p → ⊥) → names_atom xs p ≡ false
unnamed xs p none = false_from_ne_true (names_atom xs p) (λ e. none ((names_atom-Decides xs p).0 e))

-- an atom of a list is at a place
pub named_at : (xs : List ℕ) (p : ℕ) → names_atom xs p ≡ true
    → (k : ℕ) × (k < length xs) × (get_or xs k 0 ≡ p)
named_at xs p e = let c = (names_atom-Decides xs p).0 e in
    (c.0, c.1, get_or_default xs c.0 0 p c.1 ∙ c.2)

-- where a list begins to be at least a number, by the two items around the place
pub first_from : (xs : List ℕ) (from i : ℕ) → IsStrictlyIncreasing xs → i ≤ length xs
    → (0 < i → get_or xs (i - 1) 0 < from)
    → (i < length xs → from ≤ get_or xs i 0) → IsFirstFrom xs from i
first_from xs from i rises upto less more = record {
  upto = upto;
  before = λ k below. let within : i - 1 < length xs = omega arith in
      let apart = rises_upto xs k (i - 1) rises (omega arith) within in
      let last = less (omega arith) in omega arith;
  after = λ k past within. let apart = rises_upto xs i k rises past within in
      let here = more (omega arith) in omega arith;
}

-- where a search for the number ends
pub first_from_place : (xs : List ℕ) (from : ℕ) (r : Result ℕ ℕ) → IsStrictlyIncreasing xs
    → IsPlaceOf xs from r → (i : ℕ) → (r ≡ Ok i) ⊎ (r ≡ Err i)
    → IsFirstFrom xs from i
first_from_place xs from (Ok j) rises at i is =
    let same : j ≡ i = elim is [ inl e ↦ cc | inr e ↦ cc ] in
    let e = ap (λ k. get_or xs k 0) same in
    record {
      upto = omega (arith, at.0);
      before = λ k less. let apart = rises_apart xs k j rises (omega arith) at.0 in
          omega (arith, at.1);
      after = λ k past within. let apart = rises_upto xs i k rises past within in
          omega (arith, at.1);
    }
first_from_place xs from (Err j) rises at i is =
    let same : j ≡ i = elim is [ inl e ↦ cc | inr e ↦ cc ] in
    record {
      upto = omega (arith, at.0);
      before = λ k less. at.1 k (omega arith);
      after = λ k past within. let more = at.2 k (omega arith) within in omega arith;
    }

module _ (others xs : List ℕ) (from i : ℕ) (rises : IsStrictlyIncreasing xs)
    (passed : (k : ℕ) → k < i → from ≤ get_or xs k 0 → names_atom others (get_or xs k 0) ≡ false
    → ⊥) where
  -- a kept atom is not before the place
  not_before : (p : ℕ) → from ≤ p → is_kept others xs p ≡ true
      → (k : ℕ) × (k < length xs) × (i ≤ k) × (get_or xs k 0 ≡ p)
  not_before p upto kept =
      let parts = and_parts (not (names_atom others p)) (names_atom xs p) kept in
      let at = named_at xs p parts.1 in
      elim (cases_lt at.0 i) [
        | inl less ↦
            let e = at.2 in
            absurd (passed at.0 less (omega arith)
            (ap (λ q. names_atom others q) e ∙ not-true (names_atom others p) parts.0))
        | inr past ↦ (at.0, at.1, past, at.2)
      ]

  pub kept_none : length xs ≤ i → IsNext (is_kept others xs) from None
  kept_none end p upto = false_from_ne_true (is_kept others xs p)
      (λ kept. let at = not_before p upto kept in omega (arith, at.1, at.2))

  pub kept_next : i < length xs → from ≤ get_or xs i 0 → names_atom others (get_or xs i 0) ≡ false
      → IsNext (is_kept others xs) from (Some (get_or xs i 0))
  kept_next within upto none = (
    upto,
    and_from (not (names_atom others (get_or xs i 0))) (names_atom xs (get_or xs i 0))
        (not_from_false _ none)
        ((names_atom-Decides xs (get_or xs i 0)).1 (Contains-get_or xs i 0 within)),
    λ p from_p less. false_from_ne_true (is_kept others xs p) (λ kept.
        let at = not_before p from_p kept in
        elim (cases_order i at.0) [
          | inl e ↦ let f = ap (λ n. get_or xs n 0) e in let g = at.3 in omega arith
          | inr (inl before) ↦ let apart = rises_apart xs i at.0 rises before at.1 in
              let g = at.3 in omega arith
          | inr (inr after) ↦ let past = at.2 in omega arith
        ]),
  )

-- equal sets have the same next atom
pub next_same : (f g : ℕ → Bool) (from : ℕ) (o : Option ℕ) → ((p : ℕ) → f p ≡ g p) → IsNext f from o
    → IsNext g from o
next_same f g from None same is = λ p upto. sym (same p) ∙ is p upto
next_same f g from (Some a) same is = (
  is.0,
  sym (same a) ∙ is.1,
  λ p upto less. sym (same p)
      ∙ is.2 p upto less,
)

module _ (words : List ℕ) (from at start : ℕ)
    (begins : (i : ℕ) → i < 64 → (from ≤ 64 * at + i) ↔ (start ≤ i))
    (passed : (p : ℕ) → from ≤ p → p / 64 < at → flag_at words p ≡ false) where
  -- the bit of a place in the word, where none is set
  clear_bit : (i p : ℕ) → i < 64 → 64 * at + i ≡ p → bit_at (get_or words at 0) i ≡ 0
      → flag_at words p ≡ false
  clear_bit i p small is none =
      ap (λ q. flag_at words q) (sym is) ∙ sym (at_place words at i small) ∙ ap (λ b. eqb b 1) none

  -- the word has no flag from there on
  pub word_passed : IsNextBit (get_or words at 0) start None → (p : ℕ) → from ≤ p → p / 64 < at + 1
      → flag_at words p ≡ false
  word_passed none p upto less =
      elim (cases_lt (p / 64) at) [
        | inl before ↦ passed p upto before
        | inr here ↦
            let small : p % 64 < 64 = omega arith in
            let is : 64 * at + p % 64 ≡ p = omega arith in
            clear_bit (p % 64) p small is (none (p % 64) ((begins (p % 64) small).0 (omega arith))
            small)
      ]

  -- the word has the next flag
  pub word_next : (b : ℕ) → IsNextBit (get_or words at 0) start (Some b)
      → IsNext (flag_at words) from (Some (at * 64 + b))
  word_next b next =
      let small = next.1 in
      let is : 64 * at + b ≡ at * 64 + b = omega arith in
      let from_here = (begins b small).1 next.0 in (
        omega arith,
        ap (λ q. flag_at words q) (sym is) ∙ sym (at_place words at b small)
            ∙ eq-eqb (bit_at (get_or words at 0) b) 1 next.2,
        λ p upto less. elim (cases_lt (p / 64) at) [
          | inl before ↦ passed p upto before
          | inr here ↦
              let within : p % 64 < 64 = omega arith in
              let place : 64 * at + p % 64 ≡ p = omega arith in
              clear_bit (p % 64) p within place (next.3 (p % 64)
              ((begins (p % 64) within).0 (omega arith)) (omega arith))
        ],
      )
