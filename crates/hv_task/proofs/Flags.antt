-- Flags in words, place by place.
use Rattle.std.proofs.Common.{pow-add, w64, ◌≡◌, ℕ, ◌+◌, ◌-◌, ◌*◌, ◌/◌, ◌%◌, ◌^◌, ◌<◌, ◌≤◌, ◌↔◌}
use Rattle.std.proofs.Common.{◌∙◌, Bool, true, false, cond, eqb, List, [], length, get_or, set}
use Rattle.std.proofs.Common.{replicate, refl, sym, ap, arith, inl, inr}
use Rattle.std.proofs.lemmas.Bool.{cases_lt, cases_eq, cond-true, cond-false, eq-eqb, ne_eqb}
use Rattle.std.proofs.lemmas.Bool.{eqb-true}
use Rattle.std.proofs.lemmas.List.{ext_get_or, length-set, length-replicate, get_or-replicate}
use Rattle.std.proofs.lemmas.List.FromFn.{length-map-range_with_len, get_or-map-range_with_len}
use Rattle.std.proofs.lemmas.Nat.Bits.{bit_at-lt, bit_at-zero, bit_at_above, same_from_bits_below}
use Rattle.std.proofs.lemmas.Nat.Bits.{bit_at-trailing_zeros}
use Rattle.std.proofs.Math.Nat.{div-div-eq-div-mul, div-le_self}
use Rattle.std.specs.Int.{bit_at, trailing_zeros}
use Rattle.hv_task.specs.State.{has_atom, state_of}
use Rattle.hv_task.proofs.Places.{has_atom_past, has_atom-set, same_state}
use Rattle.hv_task.specs.Words.{AreWords}
use Rattle.hv_task.specs.Working.Words.{IsPacked, flag_at, flags_of}

pub length_flags : (words : List ℕ) (n : ℕ) → length (flags_of words n) ≡ n
length_flags words n = length-map-range_with_len (flag_at words) 0 n

pub has_flags : (words : List ℕ) (n p : ℕ) → p < n → has_atom (flags_of words n) p ≡ flag_at words p
has_flags words n p less = get_or-map-range_with_len (flag_at words) 0 n p p false less
    (omega arith)

-- the flags are told past the count too
pub has_flags_anywhere : (words : List ℕ) (n p : ℕ) → IsPacked words n
    → has_atom (flags_of words n) p ≡ flag_at words p
has_flags_anywhere words n p packed =
    elim (cases_lt p n) [
      | inl less ↦ has_flags words n p less
      | inr past ↦ has_atom_past (flags_of words n) p (omega (arith, length_flags words n))
          ∙ sym (packed.past p past)
    ]

-- one flag written
pub flags_set : (u v : List ℕ) (n q : ℕ) (value : Bool)
    → ((p : ℕ) → flag_at v p ≡ cond (eqb p q) value (flag_at u p))
    → flags_of v n ≡ set (flags_of u n) q value
flags_set u v n q value written =
    same_state (flags_of v n) (set (flags_of u n) q value)
    (length_flags v n ∙ sym (length-set (flags_of u n) q value ∙ length_flags u n))
    (λ p within.
    let size_u = length_flags u n in
    let size_v = length_flags v n in
    let less : p < n = omega arith in
    has_flags v n p less ∙ written p ∙ turned p
    ∙ sym (has_atom-set (flags_of u n) q p value (omega arith)
    ∙ ap (λ b. cond (eqb q p) value b) (has_flags u n p less)))
  where
    turned : (p : ℕ) → cond (eqb p q) value (flag_at u p) ≡ cond (eqb q p) value (flag_at u p)
    turned p =
        elim (cases_eq p q) [
          | inl e ↦ cond-true (eqb p q) value (flag_at u p) (eq-eqb p q e)
              ∙ sym (cond-true (eqb q p) value (flag_at u p) (eq-eqb q p (sym e)))
          | inr e ↦ cond-false (eqb p q) value (flag_at u p) (ne_eqb p q e)
              ∙ sym (cond-false (eqb q p) value (flag_at u p) (ne_eqb q p (λ f. e (sym f))))
        ]

-- still packed after a write below the count
pub packed_set : (u v : List ℕ) (n q : ℕ) (value : Bool) → IsPacked u n → q < n
    → length v ≡ length u
    → ((p : ℕ) → flag_at v p ≡ cond (eqb p q) value (flag_at u p)) → IsPacked v n
packed_set u v n q value packed less size written = record {
  upto = let a = packed.upto in omega arith;
  tight = let a = packed.tight in omega arith;
  past = λ p past. written p ∙ cond-false (eqb p q) value (flag_at u p)
      (ne_eqb p q (λ e. omega arith)) ∙ packed.past p past;
}

-- words of zeros have no flag
pub flag_zero : (words : List ℕ) (p : ℕ) → get_or words (p / 64) 0 ≡ 0 → flag_at words p ≡ false
flag_zero words p e = ap (λ w. eqb (bit_at w (p % 64)) 1) e
    ∙ ap (λ b. eqb b 1) (bit_at-zero (p % 64))

pub flags_none : (words : List ℕ) (n : ℕ) → ((k : ℕ) → get_or words k 0 ≡ 0)
    → flags_of words n ≡ state_of n []
flags_none words n zeros =
    same_state (flags_of words n) (replicate n false)
    (length_flags words n ∙ sym (length-replicate n false))
    (λ p within.
    let less : p < n = omega (arith, length_flags words n) in
    has_flags words n p less ∙ flag_zero words p (zeros (p / 64))
    ∙ sym (get_or-replicate n p false false less))

-- a bit is told by its test
pub bit_from_flag : (a b : ℕ) → a < 2 → b < 2 → eqb a 1 ≡ eqb b 1 → a ≡ b
bit_from_flag a b small_a small_b e =
    elim (cases_eq a 1) [
      | inl one ↦ let f = eqb-true b 1 (sym e ∙ eq-eqb a 1 one) in omega arith
      | inr other ↦
          elim (cases_eq b 1) [
            | inl one ↦ let f = eqb-true a 1 (e ∙ eq-eqb b 1 one) in omega arith
            | inr too ↦ omega arith
          ]
    ]

-- the flag of a bit of a word
pub at_place : (words : List ℕ) (k i : ℕ) → i < 64
    → eqb (bit_at (get_or words k 0) i) 1 ≡ flag_at words (64 * k + i)
at_place words k i below =
    let q : (64 * k + i) / 64 ≡ k = omega arith in
    let r : (64 * k + i) % 64 ≡ i = omega arith in
    ap (λ j. eqb (bit_at (get_or words j 0) i) 1) (sym q)
    ∙ ap (λ j. eqb (bit_at (get_or words ((64 * k + i) / 64) 0) j) 1) (sym r)

-- the words are those of the state of their flags
pub words_of_flags : (words : List ℕ) (n : ℕ) → IsPacked words n → AreWords (flags_of words n) words
words_of_flags words n packed = record {
  upto = let a = packed.upto in omega (arith, length_flags words n);
  tight = let a = packed.tight in omega (arith, length_flags words n);
  bit = λ w b small.
      let e = at_place words w b small ∙ sym (has_flags_anywhere words n (64 * w + b) packed) in (
        λ one. sym e ∙ eq-eqb (bit_at (get_or words w 0) b) 1 one,
        λ held. eqb-true
            (bit_at (get_or words w 0) b) 1 (e ∙ held),
      );
}

-- words with the same flags are the same words
pub same_words : (u v : List ℕ) (n : ℕ) → IsPacked u n → IsPacked v n
    → ((k : ℕ) → get_or u k 0 < 2 ^ 64) → ((k : ℕ) → get_or v k 0 < 2 ^ 64)
    → flags_of u n ≡ flags_of v n → u ≡ v
same_words u v n packed_u packed_v fit_u fit_v same =
    let size : length u ≡ length v =
    let a = packed_u.upto in let b = packed_u.tight in let c = packed_v.upto in
    let d = packed_v.tight in omega arith in
    ext_get_or 0 u v size (λ k within.
    same_from_bits_below 64 (get_or u k 0) (get_or v k 0) (fit_u k) (fit_v k) (λ i below.
    bit_from_flag (bit_at (get_or u k 0) i) (bit_at (get_or v k 0) i) (bit_at-lt (get_or u k 0) i)
    (bit_at-lt (get_or v k 0) i)
    (at_place u k i below ∙ flag (64 * k + i) ∙ sym (at_place v k i below))))
  where
    flag : (p : ℕ) → flag_at u p ≡ flag_at v p
    flag p =
        elim (cases_lt p n) [
          | inl less ↦ sym (has_flags u n p less) ∙ ap (λ s. has_atom s p) same
              ∙ has_flags v n p less
          | inr past ↦ packed_u.past p past ∙ sym (packed_v.past p past)
        ]

-- an answer about a bit, as a test
pub flag_from : (r : Bool) (b : ℕ) → ((r ≡ true) ↔ (b ≡ 1)) → r ≡ eqb b 1
flag_from true b is = sym (eq-eqb b 1 (is.0 refl))
flag_from false b is = sym (ne_eqb b 1 (λ e. let f : false ≡ true = is.1 e in absurd cc))

-- a bit of what is left of a word
pub bit_past : (word k i : ℕ) → bit_at (word / 2 ^ k) i ≡ bit_at word (k + i)
bit_past word k i = ap (λ d. d % 2) (div-div-eq-div-mul word (2 ^ k) (2 ^ i)
    ∙ ap (λ m. word / m) (sym (pow-add 2 k i)))

-- nothing is left of a word: its high bits are not set
pub none_past : (word k i : ℕ) → word / 2 ^ k ≡ 0 → k ≤ i → bit_at word i ≡ 0
none_past word k i e upto =
    let split : k + (i - k) ≡ i = omega arith in
    ap (λ j. bit_at word j) (sym split) ∙ sym (bit_past word k (i - k))
    ∙ ap (λ w. bit_at w (i - k)) e ∙ bit_at-zero (i - k)

-- the lowest bit of what is left
pub first_past : (word k : ℕ) → 0 < word / 2 ^ k → word / 2 ^ k < 2 ^ 64 → word < 2 ^ 64 →
    (k ≤ k + trailing_zeros w64 (word / 2 ^ k)) × (k + trailing_zeros w64 (word / 2 ^ k) < 64)
    × (bit_at word (k + trailing_zeros w64 (word / 2 ^ k)) ≡ 1)
    × ((i : ℕ) → k ≤ i → i < k + trailing_zeros w64 (word / 2 ^ k) → bit_at word i ≡ 0)
first_past word k some fits whole =
    let first = bit_at-trailing_zeros w64 (word / 2 ^ k) some fits in
    let one = sym (bit_past word k (trailing_zeros w64 (word / 2 ^ k))) ∙ first.1 in (
      omega arith,
      elim (cases_lt (k + trailing_zeros w64 (word / 2 ^ k)) 64) [
        | inl less ↦ less
        | inr past ↦ let none = bit_at_above word 64 (k + trailing_zeros w64 (word / 2 ^ k)) whole
            past in absurd (omega arith)
      ],
      one,
      λ i upto less.
          let split : k + (i - k) ≡ i = omega arith in
          ap (λ j. bit_at word j) (sym split) ∙ sym (bit_past word k (i - k))
          ∙ first.2 (i - k) (omega arith),
    )

-- words with these flags, of a state of another list of flags
pub packed_upto : (u v : List ℕ) (n m : ℕ) → IsPacked u n → IsPacked v m → n ≡ m
    → length u ≡ length v
packed_upto u v n m a b e = let p = a.upto in let q = a.tight in let r = b.upto in
    let s = b.tight in omega arith

-- words that are all 0
pub packed_none : (u v : List ℕ) (n : ℕ) → IsPacked u n → length v ≡ length u
    → ((k : ℕ) → get_or v k 0 ≡ 0) → IsPacked v n
packed_none u v n packed size zeros = record {
  upto = let p = packed.upto in omega arith;
  tight = let p = packed.tight in omega arith;
  past = λ p past. flag_zero v p (zeros (p / 64));
}

-- a part of a word fits
pub part_fits : (word k : ℕ) → word < 2 ^ 64 → word / 2 ^ k < 2 ^ 64
part_fits word k fits = let less = div-le_self word (2 ^ k) in omega arith

-- words that differ at a place have other flags
pub other_words : (u v : List ℕ) (n k : ℕ) → IsPacked u n → IsPacked v n
    → ((j : ℕ) → get_or u j 0 < 2 ^ 64) → ((j : ℕ) → get_or v j 0 < 2 ^ 64)
    → (get_or u k 0 ≡ get_or v k 0 → ⊥) → flags_of u n ≡ flags_of v n → ⊥
other_words u v n k packed_u packed_v fit_u fit_v other same = other
    (ap (λ w. get_or w k 0) (same_words u v n packed_u packed_v fit_u fit_v same))

-- words that agree are the same
pub agreed : (u v : List ℕ) (n m : ℕ) → IsPacked u n → IsPacked v n → length u ≤ m
    → ((k : ℕ) → k < m → get_or u k 0 ≡ get_or v k 0) → u ≡ v
agreed u v n m packed_u packed_v whole agree = ext_get_or 0 u v
    (packed_upto u v n n packed_u packed_v refl) (λ k within. agree k (omega arith))
