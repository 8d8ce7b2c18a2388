-- What the flags of two lists of words have to do with each other, word by word.
use Rattle.std.proofs.Common.{w64, ◌≡◌, ℕ, ◌<◌, ◌≤◌, ◌^◌, ◌∙◌, ◌+◌, ◌-◌, ◌*◌, ◌/◌, ◌%◌, ◌↔◌, ◌&&◌}
use Rattle.std.proofs.Common.{eqb, sym, not, min, Bool, false, List, Some, None, length, get_or, ap}
use Rattle.std.proofs.Common.{arith, inl, inr}
use Rattle.std.proofs.lemmas.Bool.{eq-eqb, ne_eqb, cases_eq, cases_lt}
use Rattle.std.proofs.lemmas.List.{get_or_past}
use Rattle.std.proofs.lemmas.Nat.Bits.{bit_at-lt, bit_at_and, bit_at_not}
use Rattle.std.specs.Prelude.{bit_and}
use Rattle.std.specs.Int.{bit_not}
use Rattle.std.specs.Int.{bit_at}
use Rattle.hv_task.specs.State.{has_atom}
use Rattle.hv_task.specs.Working.Words.{IsNextBit, IsPacked, flag_at, flags_of}
use Rattle.hv_task.specs.Atoms.{IsNext}
use Rattle.hv_task.proofs.Flags.{at_place, flag_zero, has_flags_anywhere}

pub both_bits : (a b : ℕ) → a < 2 → b < 2 → eqb (min a b) 1 ≡ (eqb a 1 && eqb b 1)
both_bits a b small_a small_b =
    elim (cases_eq a 1) [
      | inl one ↦
          let m : min a b ≡ b = omega arith in
          ap (λ x. eqb x 1) m ∙ sym (ap (λ x. x && eqb b 1) (eq-eqb a 1 one))
      | inr other ↦
          let m : min a b ≡ 0 = omega arith in
          ap (λ x. eqb x 1) m ∙ sym (ap (λ x. x && eqb b 1) (ne_eqb a 1 other))
    ]

pub other_bit : (b : ℕ) → b < 2 → eqb (1 - b) 1 ≡ not (eqb b 1)
other_bit b small =
    elim (cases_eq b 1) [
      | inl one ↦ let m : 1 - b ≡ 0 = omega arith in
          ap (λ x. eqb x 1) m ∙ sym (ap not (eq-eqb b 1 one))
      | inr other ↦ let m : 1 - b ≡ 1 = omega arith in
          ap (λ x. eqb x 1) m ∙ sym (ap not (ne_eqb b 1 other))
    ]

pub bit_outside : (a b i : ℕ) → b < 2 ^ 64 → i < 64
    → eqb (bit_at (bit_and a (bit_not w64 b)) i) 1
    ≡ (eqb (bit_at a i) 1 && not (eqb (bit_at b i) 1))
bit_outside a b i fits small =
    let low = bit_at-lt b i in
    ap (λ x. eqb x 1) (bit_at_and a (bit_not w64 b) i
    ∙ ap (min (bit_at a i)) (bit_at_not w64 b i fits small))
    ∙ both_bits (bit_at a i) (1 - bit_at b i) (bit_at-lt a i) (omega arith)
    ∙ ap (λ x. eqb (bit_at a i) 1 && x) (other_bit (bit_at b i) low)

-- the flags that both lists of words have
pub flags_met : (u v w : List ℕ) → length v ≡ length u → length w ≡ length u
    → ((k : ℕ) → k < length u → get_or w k 0 ≡ bit_and (get_or u k 0) (get_or v k 0))
    → (p : ℕ) → flag_at w p ≡ (flag_at u p && flag_at v p)
flags_met u v w size_v size_w met p =
    elim (cases_lt (p / 64) (length u)) [
      | inl less ↦
          let a = bit_at (get_or u (p / 64) 0) (p % 64) in
          ap (λ x. eqb (bit_at x (p % 64)) 1) (met (p / 64) less)
          ∙ ap (λ x. eqb x 1) (bit_at_and (get_or u (p / 64) 0) (get_or v (p / 64) 0) (p % 64))
          ∙ both_bits (bit_at (get_or u (p / 64) 0) (p % 64))
          (bit_at (get_or v (p / 64) 0) (p % 64)) (bit_at-lt (get_or u (p / 64) 0) (p % 64))
          (bit_at-lt (get_or v (p / 64) 0) (p % 64))
      | inr past ↦
          flag_zero w p (get_or_past w (p / 64) 0 (omega arith))
          ∙ sym (ap (λ x. x && flag_at v p) (flag_zero u p (get_or_past u (p / 64) 0 past)))
    ]

-- still packed where flags are taken out
pub packed_met : (u v w : List ℕ) (n : ℕ) → IsPacked u n → length w ≡ length u
    → ((p : ℕ) → flag_at w p ≡ (flag_at u p && flag_at v p)) → IsPacked w n
packed_met u v w n packed size met = record {
  upto = let a = packed.upto in omega arith;
  tight = let a = packed.tight in omega arith;
  past = λ p past. met p ∙ ap (λ x. x && flag_at v p) (packed.past p past);
}

-- the atoms of states whose flags these are
pub atoms_met : (u v w : List ℕ) (n m : ℕ) → IsPacked u n → IsPacked v m → IsPacked w n
    → ((p : ℕ) → flag_at w p ≡ (flag_at u p && flag_at v p))
    → (p : ℕ) → has_atom (flags_of w n) p ≡ (has_atom (flags_of u n) p && has_atom (flags_of v m) p)
atoms_met u v w n m packed_u packed_v packed_w met p =
    has_flags_anywhere w n p packed_w ∙ met p
    ∙ ap (λ x. x && flag_at v p) (sym (has_flags_anywhere u n p packed_u))
    ∙ ap (λ x. has_atom (flags_of u n) p && x) (sym (has_flags_anywhere v m p packed_v))

pub atoms_outside : (u v : List ℕ) (n m : ℕ) → IsPacked u n → IsPacked v m
    → (p : ℕ) → (flag_at u p && not (flag_at v p))
    ≡ (has_atom (flags_of u n) p && not (has_atom (flags_of v m) p))
atoms_outside u v n m packed_u packed_v p =
    ap (λ x. x && not (flag_at v p)) (sym (has_flags_anywhere u n p packed_u))
    ∙ ap (λ x. has_atom (flags_of u n) p && not x) (sym (has_flags_anywhere v m p packed_v))

-- a word of a set of flags, and its next one
module _ (set : ℕ → Bool) (word from at start : ℕ)
    (same : (i : ℕ) → i < 64 → eqb (bit_at word i) 1 ≡ set (64 * at + i))
    (begins : (i : ℕ) → i < 64 → (from ≤ 64 * at + i) ↔ (start ≤ i))
    (passed : (p : ℕ) → from ≤ p → p / 64 < at → set p ≡ false) where
  clear : (i p : ℕ) → i < 64 → 64 * at + i ≡ p → bit_at word i ≡ 0 → set p ≡ false
  clear i p small is none = ap (λ q. set q) (sym is) ∙ sym (same i small) ∙ ap (λ b. eqb b 1) none

  -- the word has none from there on
  pub set_passed : IsNextBit word start None → (p : ℕ) → from ≤ p → p / 64 < at + 1 → set p ≡ false
  set_passed none p upto less =
      elim (cases_lt (p / 64) at) [
        | inl before ↦ passed p upto before
        | inr here ↦
            let small : p % 64 < 64 = omega arith in
            let is : 64 * at + p % 64 ≡ p = omega arith in
            clear (p % 64) p small is (none (p % 64) ((begins (p % 64) small).0 (omega arith))
            small)
      ]

  -- the word has the next one
  pub set_next : (b : ℕ) → IsNextBit word start (Some b) → IsNext set from (Some (at * 64 + b))
  set_next b next =
      let small = next.1 in
      let is : 64 * at + b ≡ at * 64 + b = omega arith in
      let from_here = (begins b small).1 next.0 in (
        omega arith,
        ap (λ q. set q) (sym is) ∙ sym (same b small) ∙ eq-eqb (bit_at word b) 1 next.2,
        λ p upto less. elim (cases_lt (p / 64) at) [
          | inl before ↦ passed p upto before
          | inr here ↦
              let within : p % 64 < 64 = omega arith in
              let place : 64 * at + p % 64 ≡ p = omega arith in
              clear (p % 64) p within place (next.3 (p % 64)
              ((begins (p % 64) within).0 (omega arith)) (omega arith))
        ],
      )

-- the word of the flags of the one that are not the other's
pub place_outside : (u v : List ℕ) (word at : ℕ)
    → ((i : ℕ) → i < 64 → eqb (bit_at word i) 1
    ≡ (eqb (bit_at (get_or u at 0) i) 1 && not (eqb (bit_at (get_or v at 0) i) 1)))
    → (i : ℕ) → i < 64 → eqb (bit_at word i) 1
    ≡ (flag_at u (64 * at + i) && not (flag_at v (64 * at + i)))
place_outside u v word at is i small =
    is i small
    ∙ ap (λ x. x && not (eqb (bit_at (get_or v at 0) i) 1)) (at_place u at i small)
    ∙ ap (λ x. flag_at u (64 * at + i) && not x) (at_place v at i small)

-- past the words there is none
pub none_outside : (u v : List ℕ) (from at : ℕ) → length u ≤ at
    → ((p : ℕ) → from ≤ p → p / 64 < at → (flag_at u p && not (flag_at v p)) ≡ false)
    → (p : ℕ) → from ≤ p → (flag_at u p && not (flag_at v p)) ≡ false
none_outside u v from at past passed p upto =
    elim (cases_lt (p / 64) at) [
      | inl less ↦ passed p upto less
      | inr more ↦ ap (λ x. x && not (flag_at v p))
          (flag_zero u p (get_or_past u (p / 64) 0 (omega arith)))
    ]
