-- States as words: the atoms of a word are those whose bits are set.
use Rattle.std.proofs.Common.{◌≡◌, ◌+◌, ◌<◌, ◌^◌, ◌++◌, ◌∷◌, ℕ, zero, suc, eqb, Bool}
use Rattle.std.proofs.Common.{false, List, [], get_or, refl, sym, ap, subst, arith, inl}
use Rattle.std.proofs.Common.{inr}
use Rattle.std.proofs.lemmas.Bool.{cases_Bool, cases_lt, cond-false, cond-true, both_ways}
use Rattle.std.proofs.lemmas.Bool.Decides.{same_from_decides}
use Rattle.std.proofs.lemmas.List.{append-nil}
use Rattle.std.proofs.lemmas.List.Elements.{Contains-get_or}
use Rattle.std.proofs.lemmas.Nat.Bits.{bit_at_above}
use Rattle.std.specs.Int.{bit_at}
use Rattle.std.specs.List.{Contains}
use Rattle.std.specs.List.Sorted.{IsStrictlyIncreasing}
use Rattle.hv_task.specs.Atoms.{Lists}
use Rattle.hv_task.specs.State.{AreBelow, names_atom}
use Rattle.hv_task.proofs.Listing.{lists_next, lists_none}
use Rattle.hv_task.proofs.Places.{names_atom-Decides}
use Rattle.hv_explicit.specs.Working.Codes.{IsListCode, code_sum}
use Rattle.hv_explicit.specs.Working.Words.{bits_below, word_atoms}
use Rattle.hv_explicit.proofs.Bits.{code_from_bits, exact_same}
use Rattle.hv_explicit.proofs.Clashes.{below_list}
use Rattle.hv_explicit.proofs.LookUp.{same_lists}
use Rattle.hv_explicit.proofs.Totals.{is_list_code, one_code}

-- whether the bit is set
abbrev is_set : ℕ → ℕ → Bool
is_set word p = eqb (bit_at word p) 1

bits_list : (word n : ℕ) → Lists (is_set word) n (bits_below word n)
bits_list word zero = lists_none (is_set word)
bits_list word (suc n) =
    let front = bits_list word n in
    let next : n + 1 ≡ suc n = omega arith in
    elim (cases_Bool (is_set word n)) [
      | inl put ↦
          subst (λ xs. Lists (is_set word) (suc n) (bits_below word n ++ xs))
          (sym (cond-true (is_set word n) (n ∷ []) [] put))
          (subst (λ m. Lists (is_set word) m (bits_below word n ++ n ∷ [])) next
          (lists_next (is_set word) n (bits_below word n) n front
          (omega arith, put, λ p upto less. absurd (omega arith))))
      | inr out ↦
          subst (λ xs. Lists (is_set word) (suc n) (bits_below word n ++ xs))
          (sym (cond-false (is_set word n) (n ∷ []) [] out))
          (subst (λ xs. Lists (is_set word) (suc n) xs) (sym (append-nil (bits_below word n)))
          (record {
            rises = front.rises;
            has = λ a. (
              λ c. let f = (front.has a).0 c in (omega (arith, f.0), f.1),
              λ f. elim (cases_lt a n) [
                | inl less ↦ (front.has a).1 (less, f.1)
                | inr upto ↦
                    let same : n ≡ a = omega (arith, f.0) in
                    absurd (both_ways (is_set word a)
                    (subst (λ p. is_set word p ≡ false) same out) f.1)
              ],
            );
          }))
    ]

word_list : (word : ℕ) → Lists (is_set word) 64 (word_atoms word)
unfolding word_atoms
word_list word = bits_list word 64

pub word_rises : (word : ℕ) → IsStrictlyIncreasing (word_atoms word)
word_rises word = (word_list word).rises

pub word_below : (word : ℕ) → AreBelow 64 (word_atoms word)
word_below word k d within = (((word_list word).has (get_or (word_atoms word) k d)).0
    (Contains-get_or (word_atoms word) k d within)).0

-- the word has a bit for each of its atoms
pub word_names : (word p : ℕ) → word < 2 ^ 64
    → names_atom (word_atoms word) p ≡ eqb (bit_at word p) 1
word_names word p fits =
    same_from_decides {P = Contains (word_atoms word) p} (names_atom (word_atoms word) p)
    (is_set word p) (names_atom-Decides (word_atoms word) p) (
      λ e. elim (cases_lt p 64) [
        | inl less ↦ ((word_list word).has p).1 (less, e)
        | inr past ↦
            let none = bit_at_above word 64 p fits past in
            let not_set : is_set word p ≡ false = ap (λ b. eqb b 1) none in
            absurd (both_ways (is_set word p) not_set e)
      ],
      λ c. (((word_list word).has p).0 c).1,
    )

-- it is the code of its atoms
pub word_code : (word : ℕ) → word < 2 ^ 64 → IsListCode 0 (word_atoms word) word
word_code word fits bound below =
    let set = names_atom (word_atoms word) in
    one_code 0 set set word (code_sum 0 set bound) (
      64,
      below_list 64 (word_atoms word) (word_below word),
      code_from_bits set word fits (λ p less. sym (word_names word p fits)),
    )
    (bound, below_list bound (word_atoms word) below, refl) (λ p. refl)

-- and the code of a list of atoms is a word of these
pub word_of_list : (held : List ℕ) (code : ℕ) → code < 2 ^ 64 → IsStrictlyIncreasing held
    → AreBelow 64 held → IsListCode 0 held code → word_atoms code ≡ held
word_of_list held code fits rises below is =
    same_lists (word_atoms code) held (word_rises code) rises
    (exact_same 64 (omega arith) (names_atom (word_atoms code)) held code
    (is_list_code 0 code (word_atoms code) (word_code code fits))
    (below_list 64 (word_atoms code) (word_below code)) below is)
