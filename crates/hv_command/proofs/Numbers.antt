-- The number that a word names.
use Rattle.std.proofs.Common.{◌≡◌, ℕ, ◌<◌, ◌≤◌, ◌^◌, ◌∙◌, ◌&&◌, Bool, true, false, List, Some, None}
use Rattle.std.proofs.Common.{cond, decimal, nat_le, ap, arith, refl, subst, sym}
use Rattle.std.specs.Str.{bytes_eq}
use Rattle.std.specs.Str.Parse.{digits_value}
use Rattle.std.proofs.lemmas.Bool.{le-leb, leb-true}
use Rattle.std.proofs.lemmas.Fmt.{digits_value-decimal}
use Rattle.std.proofs.lemmas.Slice.Eq.{bytes_eq-Decides}
use Rattle.hv_bytes.specs.Decimals.{IsDecimal}
use Rattle.hv_bytes.proofs.DecimalTexts.{digits_model}
use Rattle.hv_command.specs.Words.{IsBetween, as_number, number_of}

-- the digits of a decimal are worth its number
value : (word : List ℕ) (number : ℕ) → IsDecimal word number → digits_value 10 word ≡ number
value word number is = ap (digits_value 10) is.spelled
    ∙ digits_value-decimal digits_model number (omega (arith, is.short))

module _ (least most : ℕ) (word : List ℕ) where
  -- a number within the bounds that the word spells is the one that it names
  pub names_number : (number : ℕ) → IsDecimal word number → IsBetween least most number
      → Some number ≡ number_of least most word
  names_number number is good =
      let spelled : bytes_eq word (decimal number)
      ≡ true = (bytes_eq-Decides word (decimal number)).1 is.spelled in
      let some : nat_le least number ≡ true = le-leb least number good.0 in
      let small : nat_le number most ≡ true = le-leb number most good.1 in
      let one : as_number least most word number ≡ Some number = rw (spelled, some, small) refl in
      subst (λ n. Some number ≡ as_number least most word n) (sym (value word number is)) (sym one)

  neither : (number : ℕ) (spelled some small : Bool) → nat_le least number ≡ some
      → nat_le number most ≡ small
      → (IsBetween least most number → ⊥) → cond (spelled && (some && small)) (Some number) None
      ≡ None
  neither number true true true e f bad = absurd
      (bad (leb-true least number e, leb-true number most f))
  neither number true true false e f bad = refl
  neither number true false small e f bad = refl
  neither number false some small e f bad = refl

  -- a number without them isn't named
  pub names_none : (number : ℕ) → IsDecimal word number → (IsBetween least most number → ⊥)
      → None ≡ number_of least most word
  names_none number is bad =
      subst (λ n. None ≡ as_number least most word n) (sym (value word number is))
      (sym (neither number (bytes_eq word (decimal number)) (nat_le least number)
      (nat_le number most) refl refl bad))

  unspelled : (number : ℕ) (spelled some small : Bool) → most < 10 ^ 18
      → bytes_eq word (decimal number) ≡ spelled
      → nat_le number most ≡ small → ((n : ℕ) → IsDecimal word n → ⊥)
      → cond (spelled && (some && small)) (Some number) None ≡ None
  unspelled number true true true short e f none =
      let few : number ≤ most = leb-true number most f in
      absurd (none number (record {
        spelled = (bytes_eq-Decides word (decimal number)).0 e;
        short =
            omega (arith, few, short);
      }))
  unspelled number true true false short e f none = refl
  unspelled number true false small short e f none = refl
  unspelled number false some small short e f none = refl

  -- a word that is no decimal names no number
  pub no_decimal : most < 10 ^ 18 → ((n : ℕ) → IsDecimal word n → ⊥)
      → None ≡ number_of least most word
  no_decimal short none =
      let number = digits_value 10 word in
      sym (unspelled number (bytes_eq word (decimal number)) (nat_le least number)
      (nat_le number most) short refl refl none)
