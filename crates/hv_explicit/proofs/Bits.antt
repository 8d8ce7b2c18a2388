-- Why a set of at most 64 atoms is known by the code whose numbers are powers of two.
use Rattle.std.proofs.Common.{◌≡◌, ◌∙◌, ◌+◌, ◌*◌, ◌-◌, ◌%◌, ◌^◌, ◌<◌, ◌≤◌, ◌&&◌, ◌||◌, ℕ, zero}
use Rattle.std.proofs.Common.{suc, not, eqb, Bool, true, false, List, refl, ap, ap₂, sym, subst}
use Rattle.std.proofs.Common.{arith, inl, inr, get_or}
use Rattle.std.proofs.Math.Nat.{two-pow-succ}
use Rattle.std.proofs.Math.Pow.{pow-lt}
use Rattle.std.proofs.lemmas.Bool.{cases_Bool, cases_lt, cond-false, cond-true}
use Rattle.std.proofs.lemmas.List.{get_or_default}
use Rattle.std.proofs.lemmas.Nat.Bits.{bit_at-lt, bit_at_above, bit_at_and, bit_at_cat_high}
use Rattle.std.proofs.lemmas.Nat.Bits.{bit_at_cat_low, same_from_bits, same_from_bits_below}
use Rattle.std.specs.Prelude.{bit_and}
use Rattle.std.specs.Int.{bit_at}
use Rattle.std.specs.List.{All, Contains}
use Rattle.hv_task.specs.Atoms.{is_after}
use Rattle.hv_task.specs.State.{AreBelow, names_atom}
use Rattle.hv_task.specs.Strips.{IsOver}
use Rattle.hv_task.specs.declared.action.Action.{Action}
use Rattle.hv_task.proofs.Outside.{both_bits}
use Rattle.hv_task.proofs.Places.{names_atom-Decides}
use Rattle.hv_task.proofs.Flags.{bit_from_flag}
use Rattle.hv_explicit.specs.Codes.{IsBelow}
use Rattle.hv_explicit.specs.Working.Codes.{IsAfterCode, IsCode, IsListCode, IsSame, code_sum}
use Rattle.hv_explicit.specs.Working.Codes.{total, weight}
use Rattle.hv_explicit.proofs.Clashes.{below_after, below_list}
use Rattle.hv_explicit.proofs.Totals.{one_code}

weight_bit : (p : ℕ) → p < 64 → weight 0 p ≡ 2 ^ p
unfolding weight
weight_bit p less = let e : p % 64 ≡ p = omega arith in ap (λ q. 2 ^ q) e

total_less : (f : ℕ → Bool) (n : ℕ) → n ≤ 64 → total 0 f n < 2 ^ n
total_less f zero few = omega arith
total_less f (suc n) few =
    let front = total_less f n (omega arith) in
    let w = weight_bit n (omega arith) in
    let double = two-pow-succ n in
    elim (cases_Bool (f n)) [
      | inl t ↦ let last = cond-true (f n) (weight 0 n) 0 t in omega arith
      | inr e ↦ let last = cond-false (f n) (weight 0 n) 0 e in omega arith
    ]

last_too : (f g : ℕ → Bool) (n p : ℕ) → p < suc n → f n ≡ g n → (p < n → f p ≡ g p) → f p ≡ g p
last_too f g n p less last front = elim (cases_lt p n) [
  | inl before ↦ front before
  | inr upto ↦ let e : n ≡ p = omega arith in subst (λ q. f q ≡ g q) e last
]

same_bits : (f g : ℕ → Bool) (n : ℕ) → n ≤ 64 → total 0 f n ≡ total 0 g n → (p : ℕ) → p < n
    → f p ≡ g p
same_bits f g zero few e p less = absurd (omega arith)
same_bits f g (suc n) few e p less =
    let front_f = total_less f n (omega arith) in
    let front_g = total_less g n (omega arith) in
    let w = weight_bit n (omega arith) in
    elim (cases_Bool (f n)) [
      | inl in_f ↦
          let last_f = cond-true (f n) (weight 0 n) 0 in_f in
          elim (cases_Bool (g n)) [
            | inl in_g ↦
                let last_g = cond-true (g n) (weight 0 n) 0 in_g in
                last_too f g n p less (in_f ∙ sym in_g)
                (same_bits f g n (omega arith) (omega arith) p)
            | inr out_g ↦ let last_g = cond-false (g n) (weight 0 n) 0 out_g in absurd (omega arith)
          ]
      | inr out_f ↦
          let last_f = cond-false (f n) (weight 0 n) 0 out_f in
          elim (cases_Bool (g n)) [
            | inl in_g ↦ let last_g = cond-true (g n) (weight 0 n) 0 in_g in absurd (omega arith)
            | inr out_g ↦
                let last_g = cond-false (g n) (weight 0 n) 0 out_g in
                last_too f g n p less (out_f ∙ sym out_g)
                (same_bits f g n (omega arith) (omega arith) p)
          ]
    ]

pow_fits : (n : ℕ) → n ≤ 64 → 2 ^ n ≤ 2 ^ 64
pow_fits n few = elim (cases_lt n 64) [
  | inl less ↦ let below = pow-lt less in omega arith
  | inr upto ↦ let e : 64 ≡ n = omega arith in subst (λ m. 2 ^ m ≤ 2 ^ 64) e (omega arith)
]

-- a set and a list with one code by bits are the same
pub exact_same : (n : ℕ) → n ≤ 64 → (set : ℕ → Bool) (held : List ℕ) (code : ℕ) → IsCode 0 set code
    → IsBelow n set → AreBelow n held → IsListCode 0 held code → IsSame set held
exact_same n few set held code is set_below held_below list_is p =
    elim (cases_lt p n) [
      | inl less ↦
          let mine : code ≡ code_sum 0 set n =
          one_code 0 set set code (code_sum 0 set n) is (n, set_below, refl) (λ q. refl) in
          let theirs = list_is n held_below in
          let fits = pow_fits n few in
          let set_less = total_less set n few in
          let held_less = total_less (names_atom held) n few in
          same_bits set (names_atom held) n few (omega arith) p less
      | inr upto ↦ set_below p upto ∙ sym (below_list n held held_below p upto)
    ]

-- the bit of an atom in the sum is the test of the atom
bit_total : (f : ℕ → Bool) (n p : ℕ) → n ≤ 64 → p < n → eqb (bit_at (total 0 f n) p) 1 ≡ f p
bit_total f zero p few less = absurd (omega arith)
bit_total f (suc n) p few less =
    let w = weight_bit n (omega arith) in
    let front = total_less f n (omega arith) in
    elim (cases_Bool (f n)) [
      | inl t ↦
          let last = cond-true (f n) (weight 0 n) 0 t in
          let sum : total 0 f (suc n) ≡ 1 * 2 ^ n + total 0 f n = omega arith in
          ap (λ c. eqb (bit_at c p) 1) sum
          ∙ elim (cases_lt p n) [
            | inl before ↦
                ap (λ b. eqb b 1) (bit_at_cat_low 1 n (total 0 f n) p before)
                ∙ bit_total f n p (omega arith) before
            | inr upto ↦
                let e : p ≡ n = omega arith in
                let none : p - n ≡ 0 = omega arith in
                ap (λ b. eqb b 1) (bit_at_cat_high 1 n (total 0 f n) p front upto
                ∙ ap (bit_at 1) none) ∙ sym (ap f e ∙ t)
          ]
      | inr out ↦
          let last = cond-false (f n) (weight 0 n) 0 out in
          let sum : total 0 f (suc n) ≡ total 0 f n = omega arith in
          ap (λ c. eqb (bit_at c p) 1) sum
          ∙ elim (cases_lt p n) [
            | inl before ↦ bit_total f n p (omega arith) before
            | inr upto ↦
                let e : p ≡ n = omega arith in
                ap (λ b. eqb b 1) (bit_at_above (total 0 f n) n p front upto) ∙ sym (ap f e ∙ out)
          ]
    ]

bit_code : (f : ℕ → Bool) (p : ℕ) → p < 64 → eqb (bit_at (code_sum 0 f 64) p) 1 ≡ f p
bit_code f p less =
    let fits = total_less f 64 (omega arith) in
    let e : code_sum 0 f 64 ≡ total 0 f 64 = omega arith in
    ap (λ c. eqb (bit_at c p) 1) e ∙ bit_total f 64 p (omega arith) less

-- a number of 64 bits that has just the bits of a set is its code
pub code_from_bits : (f : ℕ → Bool) (code : ℕ) → code < 2 ^ 64
    → ((p : ℕ) → p < 64 → eqb (bit_at code p) 1 ≡ f p) → code ≡ code_sum 0 f 64
code_from_bits f code fits bits =
    same_from_bits_below 64 code (code_sum 0 f 64) fits (omega arith)
    (λ p less. bit_from_flag (bit_at code p) (bit_at (code_sum 0 f 64) p) (bit_at-lt code p)
    (bit_at-lt (code_sum 0 f 64) p) (bits p less ∙ sym (bit_code f p less)))

-- the bits of the code of a list
bit_list : (held : List ℕ) (code p : ℕ) → AreBelow 64 held → IsListCode 0 held code → p < 64
    → eqb (bit_at code p) 1 ≡ names_atom held p
bit_list held code p below is less =
    ap (λ c. eqb (bit_at c p) 1) (is 64 below) ∙ bit_code (names_atom held) p less

-- a state has all atoms of a list where its code has the bits of the list's
module _ (held pre : List ℕ) (code mask : ℕ) (held_below : AreBelow 64 held)
    (pre_below : AreBelow 64 pre) (code_is : IsListCode 0 held code)
    (mask_is : IsListCode 0 pre mask) where
  bit_both : (p : ℕ) → p < 64
      → eqb (bit_at (bit_and code mask) p) 1 ≡ (names_atom held p && names_atom pre p)
  bit_both p less =
      ap (λ b. eqb b 1) (bit_at_and code mask p)
      ∙ both_bits (bit_at code p) (bit_at mask p) (bit_at-lt code p) (bit_at-lt mask p)
      ∙ ap₂ (λ a b. a && b) (bit_list held code p held_below code_is less)
      (bit_list pre mask p pre_below mask_is less)

  pub all_held : bit_and code mask ≡ mask → All (λ p. Contains held p) pre
  all_held e = λ k d within.
      let p = get_or pre k d in
      let less = pre_below k d within in
      let named : names_atom pre p ≡ true =
      (names_atom-Decides pre p).1 (k, within, get_or_default pre k p d within) in
      (names_atom-Decides held p).0
      (left_from (names_atom held p) (names_atom pre p)
      (sym (bit_both p less) ∙ ap (λ c. eqb (bit_at c p) 1) e
      ∙ bit_list pre mask p pre_below mask_is less ∙ named))
    where
      left_from : (a b : Bool) → (a && b) ≡ true → a ≡ true
      left_from true b e = refl
      left_from false b e = e

  pub bits_held : All (λ p. Contains held p) pre → bit_and code mask ≡ mask
  bits_held all = same_from_bits (bit_and code mask) mask (λ p. elim (cases_lt p 64) [
    | inl less ↦
        bit_from_flag (bit_at (bit_and code mask) p) (bit_at mask p)
        (bit_at-lt (bit_and code mask) p) (bit_at-lt mask p)
        (bit_both p less ∙ only (names_atom held p) (names_atom pre p) (λ named.
        let c = (names_atom-Decides pre p).0 named in
        (names_atom-Decides held p).1 (subst (Contains held) c.2 (all c.0 p c.1)))
        ∙ sym (bit_list pre mask p pre_below mask_is less))
    | inr past ↦
        let small : mask < 2 ^ 64 = (let e = mask_is 64 pre_below in omega arith) in
        let none = bit_at_above mask 64 p small past in
        let both = bit_at_and code mask p in omega arith
  ])
    where
      only : (a b : Bool) → (b ≡ true → a ≡ true) → (a && b) ≡ b
      only a true f = ap (λ x. x && true) (f refl)
      only true false f = refl
      only false false f = refl

-- what is left by the bits of an action is the code of its result
pub after_bits : (action : Action) (held : List ℕ) (code add del after : ℕ) → AreBelow 64 held
    → IsOver 64 action → IsListCode 0 held code → IsListCode 0 action.add add
    → IsListCode 0 action.del del → after < 2 ^ 64
    → ((p : ℕ) → p < 64 → eqb (bit_at after p) 1
    ≡ (eqb (bit_at add p) 1 || (eqb (bit_at code p) 1 && not (eqb (bit_at del p) 1))))
    → IsAfterCode 0 action held after
after_bits action held code add del after below over code_is add_is del_is fits bits =
    λ bound held_below is_over.
    let set = is_after action held in
    let mine : after ≡ code_sum 0 set 64 = code_from_bits set after fits (λ p less.
    bits p less
    ∙ ap (λ b. b || (eqb (bit_at code p) 1 && not (eqb (bit_at del p) 1)))
    (bit_list action.add add p over.add add_is less)
    ∙ ap (λ b. names_atom action.add p || (b && not (eqb (bit_at del p) 1)))
    (bit_list held code p below code_is less)
    ∙ ap (λ b. names_atom action.add p || (names_atom held p && not b))
    (bit_list action.del del p over.del del_is less)
    ∙ ap (λ b. names_atom action.add p || b)
    (swap (names_atom held p) (not (names_atom action.del p)))) in
    one_code 0 set set after (code_sum 0 set bound)
    (64, below_after 64 action held below over, mine)
    (bound, below_after bound action held held_below is_over, refl) (λ p. refl)
  where
    swap : (a b : Bool) → (a && b) ≡ (b && a)
    swap true true = refl
    swap true false = refl
    swap false true = refl
    swap false false = refl
