-- The decimals are the short texts of digits without a leading zero.
use Rattle.std.proofs.Common.{◌≡◌, ℕ, zero, suc, ◌<◌, ◌≤◌, ◌^◌, List, Option, None, Some, IfSome}
use Rattle.std.proofs.Common.{IfNone, length, length-take, get_or, take, sym, ap, subst, ◌∙◌, arith}
use Rattle.std.proofs.Common.{decimal, eqb, false, refl}
use Rattle.std.specs.List.{All}
use Rattle.std.specs.Str.Parse.{AllDigits, digits_value}
use Rattle.std.proofs.lemmas.Bool.{ne_eqb}
use Rattle.std.proofs.lemmas.Grind.{get_or_default_zero}
use Rattle.std.proofs.lemmas.Str.Parse.{IsNumeralModel, numerals_by_value, tells_digits, digit_at}
use Rattle.std.proofs.lemmas.Str.Parse.{digits_value_short}
use Rattle.std.proofs.lemmas.Fmt.{decimal-digits_value, digits_decimal, first_decimal}
use Rattle.std.proofs.lemmas.Fmt.{length-decimal-le, decimal_nonempty, decimal_digit}
use Rattle.std.proofs.lemmas.Fmt.{decimal_injective}
use Rattle.hv_bytes.specs.Decimals.{IsDecimal, IsShortDecimal}
use Rattle.hv_bytes.specs.Working.Decimals.{HasDecimalShape}

-- the model of the digits by their value
abbrev pub digits_model : IsNumeralModel (AllDigits 10) (digits_value 10)
digits_model = numerals_by_value (AllDigits 10) tells_digits

-- digits of a decimal's shape spell their value
pub IsDecimal-digits : (bytes : List ℕ) → HasDecimalShape bytes → AllDigits 10 bytes
    → IsDecimal bytes (digits_value 10 bytes)
IsDecimal-digits bytes shape digits =
    let small : digits_value 10 bytes < 10 ^ 18 = digits_value_short digits_model bytes 18 digits
    shape.short in
    record {
      spelled = sym (decimal-digits_value digits_model bytes digits shape.some shape.plain
          (omega arith));
      short = small;
    }

plain_decimal : (n : ℕ) → n < 2 ^ 64 → get_or (decimal n) 0 0 ≡ 48 → length (decimal n) ≡ 1
plain_decimal zero h e = ap length (decimal_digit 0 (omega arith))
plain_decimal (suc n) h e = absurd (omega (arith, first_decimal (suc n) (omega arith) h))

pub decimal_shape : (bytes : List ℕ) (n : ℕ) → IsDecimal bytes n → HasDecimalShape bytes
decimal_shape bytes n h =
    let below : n < 2 ^ 64 = omega (arith, h.short) in
    subst HasDecimalShape (sym h.spelled) record {
      some = decimal_nonempty n below;
      short = length-decimal-le 18 n (omega arith) h.short below;
      plain = plain_decimal n below;
    }

-- each byte of a decimal is a digit
pub decimal_digits : (bytes : List ℕ) (n : ℕ) → IsDecimal bytes n → AllDigits 10 bytes
decimal_digits bytes n h = subst (AllDigits 10) (sym h.spelled)
    (digits_decimal digits_model n (omega (arith, h.short)))

-- the same, byte by byte
pub decimal_digit_at : (bytes : List ℕ) (n : ℕ) → IsDecimal bytes n → (k : ℕ) → k < length bytes
    → (48 ≤ get_or bytes k 0) × (get_or bytes k 0 ≤ 57)
decimal_digit_at bytes n h k l = digit_at bytes k (decimal_digits bytes n h) l

-- no byte of a decimal is a space
pub no_space : (n : ℕ) → n < 10 ^ 18 → All (λ b. eqb b 32 ≡ false) (decimal n)
no_space n short = λ k d less.
    ne_eqb (get_or (decimal n) k d) 32 (λ e.
    let at = decimal_digit_at (decimal n) n (record { spelled = refl; short = short }) k less in
    let first = at.0 in
    let z = get_or_default_zero (decimal n) k d less in absurd (omega arith))

-- a decimal spells one number
pub IsDecimal-same : (bytes : List ℕ) (m n : ℕ) → IsDecimal bytes m → IsDecimal bytes n → m ≡ n
IsDecimal-same bytes m n p q = decimal_injective m n (omega (arith, p.short))
    (omega (arith, q.short)) (sym p.spelled ∙ q.spelled)

-- what reading the digits of a text of a decimal's shape gives, as a decimal
pub decimal_read : (bytes : List ℕ) (r : Option ℕ) → HasDecimalShape bytes
    → IfSome r (λ n. AllDigits 10 bytes × (n ≡ digits_value 10 bytes)) → IfSome r (IsDecimal bytes)
decimal_read bytes None shape h = tt
decimal_read bytes (Some n) shape h = subst (IsDecimal bytes) (sym h.1)
    (IsDecimal-digits bytes shape h.0)

pub decimal_unread : (bytes : List ℕ) (r : Option ℕ) → IfNone r (AllDigits 10 bytes → ⊥)
    → IfNone r ((n : ℕ) → IsDecimal bytes n → ⊥)
decimal_unread bytes None h = λ n is. h (decimal_digits bytes n is)
decimal_unread bytes (Some n) h = tt

-- fewer than 18 digits leave space for one more
pub digits_room : (bytes : List ℕ) (i : ℕ) → i < length bytes → length bytes ≤ 18
    → AllDigits 10 (take i bytes) → digits_value 10 (take i bytes) < 10 ^ 17
digits_room bytes i l short digits = digits_value_short digits_model (take i bytes) 17 digits
    (omega (arith, length-take i bytes))

pub decimal_from_short : (bytes : List ℕ) (n : ℕ) → IsShortDecimal bytes n → IsDecimal bytes n
decimal_from_short bytes n h = record { spelled = h.spelled; short = omega (arith, h.short) }
