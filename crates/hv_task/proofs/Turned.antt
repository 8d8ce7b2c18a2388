-- Flags that are within others, and flags that are taken out and put in, word by word.
use Rattle.std.proofs.Common.{◌≡◌, ℕ, ◌<◌, ◌≤◌, ◌^◌, ◌∙◌, ◌+◌, ◌*◌, ◌/◌, ◌%◌, ◌↔◌, ◌&&◌, ◌||◌}
use Rattle.std.proofs.Common.{eqb, sym, not, max, Bool, true, false, List, length, get_or, ap, subst}
use Rattle.std.proofs.Common.{arith, inl, inr, refl, IsTrue}
use Rattle.std.proofs.lemmas.Bool.{eq-eqb, ne_eqb, cases_eq, cases_lt}
use Rattle.std.proofs.lemmas.Bool.Decides.{same_from_decides}
use Rattle.std.proofs.lemmas.List.{get_or_past, get_or_default}
use Rattle.std.proofs.lemmas.Nat.Bits.{bit_at-lt, bit_at-zero, same_from_bits_below}
use Rattle.std.specs.Int.{bit_at}
use Rattle.hv_task.specs.declared.action.Action.{Action}
use Rattle.hv_task.specs.State.{AreBelow, has_all, has_atom, names_atom, state_of, successor}
use Rattle.hv_task.specs.Working.Words.{IsPacked, flag_at, flags_of}
use Rattle.hv_task.proofs.Flags.{bit_from_flag, flag_zero, has_flags_anywhere}
use Rattle.hv_task.proofs.Outside.{place_outside}
use Rattle.hv_task.proofs.Places.{has_all-Decides, has_atom-state_of, has_atom-successor}
use Rattle.hv_task.proofs.Places.{has_atom_past, length-state_of, length-successor}
use Rattle.hv_task.proofs.Places.{names_atom-Decides, same_state}

-- a bit of two words together
pub either_bit : (a b : ℕ) → a < 2 → b < 2 → eqb (max a b) 1 ≡ (eqb b 1 || eqb a 1)
either_bit a b small_a small_b =
    elim (cases_eq b 1) [
      | inl one ↦
          let m : max a b ≡ 1 = omega arith in
          ap (λ x. eqb x 1) m ∙ sym (ap (λ x. x || eqb a 1) (eq-eqb b 1 one))
      | inr other ↦
          let m : max a b ≡ a = omega arith in
          ap (λ x. eqb x 1) m ∙ sym (ap (λ x. x || eqb a 1) (ne_eqb b 1 other))
    ]

-- a word of which no bit is set
word_zero : (w : ℕ) → w < 2 ^ 64 → ((i : ℕ) → i < 64 → eqb (bit_at w i) 1 ≡ false) → w ≡ 0
word_zero w fits none =
    same_from_bits_below 64 w 0 fits (omega arith)
    (λ i small. bit_from_flag (bit_at w i) (bit_at 0 i) (bit_at-lt w i) (bit_at-lt 0 i)
    (none i small ∙ sym (ap (λ b. eqb b 1) (bit_at-zero i))))

never : (b c : Bool) → (b ≡ true → c ≡ true) → (b && not c) ≡ false
never true true f = refl
never true false f = sym (f refl)
never false c f = refl

kept : (b c : Bool) → (b && not c) ≡ false → b ≡ true → c ≡ true
kept b true e t = refl
kept true false e t = sym e
kept false false e t = t

-- the word of what is outside of other words
module _ (u v : List ℕ) (at word : ℕ)
    (is : (i : ℕ) → i < 64 → eqb (bit_at word i) 1
    ≡ (eqb (bit_at (get_or u at 0) i) 1 && not (eqb (bit_at (get_or v at 0) i) 1))) where
  -- is 0 where nothing is
  pub within_word : word < 2 ^ 64 → ((p : ℕ) → flag_at u p ≡ true → flag_at v p ≡ true)
      → word ≡ 0
  within_word fits within =
      word_zero word fits (λ i small. place_outside u v word at is i small
      ∙ never (flag_at u (64 * at + i)) (flag_at v (64 * at + i)) (within (64 * at + i)))

  -- and where it is 0, nothing of the word is
  pub within_more : word ≡ 0
      → ((p : ℕ) → p / 64 < at → flag_at u p ≡ true → flag_at v p ≡ true)
      → (p : ℕ) → p / 64 < at + 1 → flag_at u p ≡ true → flag_at v p ≡ true
  within_more zero before p less set =
      elim (cases_lt (p / 64) at) [
        | inl earlier ↦ before p earlier set
        | inr here ↦
            let small : p % 64 < 64 = omega arith in
            let place : 64 * at + p % 64 ≡ p = omega arith in
            kept (flag_at u p) (flag_at v p)
            (sym (ap (λ q. flag_at u q && not (flag_at v q)) place)
            ∙ sym (place_outside u v word at is (p % 64) small)
            ∙ ap (λ w. eqb (bit_at w (p % 64)) 1) zero
            ∙ ap (λ b. eqb b 1) (bit_at-zero (p % 64))) set
      ]

-- past the words there is nothing
pub within_all : (u v : List ℕ) (at : ℕ) → length u ≤ at
    → ((p : ℕ) → p / 64 < at → flag_at u p ≡ true → flag_at v p ≡ true)
    → (p : ℕ) → flag_at u p ≡ true → flag_at v p ≡ true
within_all u v at whole before p set =
    elim (cases_lt (p / 64) at) [
      | inl less ↦ before p less set
      | inr past ↦
          let none = flag_zero u p (get_or_past u (p / 64) 0 (omega arith)) in
          let other : true ≡ false = sym set ∙ none in absurd cc
    ]

-- the flags where those of one list of words are taken out, and then those of another put in
pub flags_turned : (u o s w : List ℕ) → length o ≡ length u → length s ≡ length u
    → length w ≡ length u
    → ((k : ℕ) → k < length u → (i : ℕ) → i < 64 → eqb (bit_at (get_or w k 0) i) 1
    ≡ (eqb (bit_at (get_or s k 0) i) 1
    || (eqb (bit_at (get_or u k 0) i) 1 && not (eqb (bit_at (get_or o k 0) i) 1))))
    → (p : ℕ) → flag_at w p ≡ (flag_at s p || (flag_at u p && not (flag_at o p)))
flags_turned u o s w size_o size_s size_w turned p =
    elim (cases_lt (p / 64) (length u)) [
      | inl less ↦ turned (p / 64) less (p % 64) (omega arith)
      | inr past ↦
          flag_zero w p (get_or_past w (p / 64) 0 (omega arith))
          ∙ sym (ap (λ x. x || (flag_at u p && not (flag_at o p)))
          (flag_zero s p (get_or_past s (p / 64) 0 (omega arith)))
          ∙ ap (λ x. x && not (flag_at o p)) (flag_zero u p (get_or_past u (p / 64) 0 past)))
    ]

-- still packed then
pub packed_turned : (u o s w : List ℕ) (n m : ℕ) → IsPacked u n → IsPacked s m → m ≡ n
    → length w ≡ length u
    → ((p : ℕ) → flag_at w p ≡ (flag_at s p || (flag_at u p && not (flag_at o p)))) → IsPacked w n
packed_turned u o s w n m packed_u packed_s same size turned = record {
  upto = let a = packed_u.upto in omega arith;
  tight = let a = packed_u.tight in omega arith;
  past = λ p past. turned p
      ∙ ap (λ x. x || (flag_at u p && not (flag_at o p))) (packed_s.past p (omega arith))
      ∙ ap (λ x. x && not (flag_at o p)) (packed_u.past p past);
}

-- the atoms of states whose flags these are
pub atoms_turned : (u o s w : List ℕ) (n k m : ℕ) → IsPacked u n → IsPacked o k → IsPacked s m
    → IsPacked w n → ((p : ℕ) → flag_at w p ≡ (flag_at s p || (flag_at u p && not (flag_at o p))))
    → (p : ℕ) → has_atom (flags_of w n) p
    ≡ (has_atom (flags_of s m) p || (has_atom (flags_of u n) p && not (has_atom (flags_of o k) p)))
atoms_turned u o s w n k m packed_u packed_o packed_s packed_w turned p =
    has_flags_anywhere w n p packed_w ∙ turned p
    ∙ ap (λ x. x || (flag_at u p && not (flag_at o p))) (sym (has_flags_anywhere s m p packed_s))
    ∙ ap (λ x. has_atom (flags_of s m) p || (x && not (flag_at o p)))
    (sym (has_flags_anywhere u n p packed_u))
    ∙ ap (λ x. has_atom (flags_of s m) p || (has_atom (flags_of u n) p && not x))
    (sym (has_flags_anywhere o k p packed_o))

-- a state holds a list exactly where the row of the list is within it
pub row_within : (n : ℕ) (held : List ℕ) (row state : List Bool) → AreBelow n held
    → row ≡ state_of n held → (r : Bool)
    → IsTrue r ↔ ((p : ℕ) → has_atom row p ≡ true → has_atom state p ≡ true)
    → r ≡ has_all held state
row_within n held row state below is r told =
    same_from_decides r (has_all held state) (
      λ t. λ k d l.
          let q = get_or held k d in
          told.0 t q (ap (λ s. has_atom s q) is ∙ has_atom-state_of n held q (below k d l)
          ∙ (names_atom-Decides held q).1 (k, l, get_or_default held k q d l)),
      λ all. told.1 (λ p set.
          let named = (names_atom-Decides held p).0
          (sym (ap (λ s. has_atom s p) is ∙ has_atom-state_of n held p (inside p set)) ∙ set) in
          subst (λ q. has_atom state q ≡ true) named.2 (all named.0 p named.1)),
    ) (has_all-Decides held state)
  where
    inside : (p : ℕ) → has_atom row p ≡ true → p < n
    inside p set =
        elim (cases_lt p n) [
          | inl less ↦ less
          | inr past ↦
              let none = has_atom_past row p
              (omega (arith, ap length is, length-state_of n held)) in
              let other : true ≡ false = sym set ∙ none in absurd cc
        ]

and_swap : (b c : Bool) → (b && c) ≡ (c && b)
and_swap true true = refl
and_swap true false = refl
and_swap false true = refl
and_swap false false = refl

-- what is left of a state by the rows of an action is its successor
pub turned_successor : (action : Action) (old new add del : List Bool)
    → add ≡ state_of (length old) action.add → del ≡ state_of (length old) action.del
    → length new ≡ length old
    → ((p : ℕ) → has_atom new p ≡ (has_atom add p || (has_atom old p && not (has_atom del p))))
    → new ≡ successor action old
turned_successor action old new add del is_add is_del size turned =
    same_state new (successor action old) (size ∙ sym (length-successor action old))
    (λ p less. let within : p < length old = omega arith in
    turned p
    ∙ ap (λ s. has_atom s p || (has_atom old p && not (has_atom del p))) is_add
    ∙ ap (λ b. b || (has_atom old p && not (has_atom del p)))
    (has_atom-state_of (length old) action.add p within)
    ∙ ap (λ s. names_atom action.add p || (has_atom old p && not (has_atom s p))) is_del
    ∙ ap (λ b. names_atom action.add p || (has_atom old p && not b))
    (has_atom-state_of (length old) action.del p within)
    ∙ ap (λ b. names_atom action.add p || b)
    (and_swap (has_atom old p) (not (names_atom action.del p)))
    ∙ sym (has_atom-successor action old p within))
