-- A number of few digits that a line begins with.
use Rattle.std.proofs.Common.{◌≡◌, ℕ, ◌+◌, ◌*◌, ◌<◌, ◌≤◌, ◌^◌, ◌∙◌, List, [], ◌∷◌, length}
use Rattle.std.proofs.Common.{take, drop, get_or, get_or-take, length-take-le, arith, decimal, sym}
use Rattle.std.specs.Str.Parse.{AllDigits, digits_value}
use Rattle.std.proofs.lemmas.Int.Digits.{digits_more, digits_value_more}
use Rattle.std.proofs.lemmas.Str.{digit_value_digit}
use Rattle.std.proofs.lemmas.Str.Parse.{digits_value_short}
use Rattle.hv_bytes.specs.Fields.{cut_fields}
use Rattle.hv_bytes.specs.Working.Decimals.{HasDecimalShape}
use Rattle.hv_bytes.specs.Working.Fronts.{IsDigitFront, SpellsFront}
use Rattle.hv_bytes.proofs.DecimalFronts.{front_decimal, front_last, front_space}
use Rattle.hv_bytes.proofs.DecimalTexts.{digits_model}

-- a digit more
pub more_digit : (bytes : List ℕ) (count number digit : ℕ) → count < length bytes
    → AllDigits 10 (take count bytes) → number ≡ digits_value 10 (take count bytes) → digit ≤ 9
    → digit + 48 ≡ get_or bytes count 0
    → AllDigits 10 (take (count + 1) bytes)
    × (number * 10 + digit ≡ digits_value 10 (take (count + 1) bytes))
more_digit bytes count number digit within digits value few is =
    let spelled = digit_value_digit (get_or bytes count 0) (omega arith, omega arith) in
    let more = digits_value_more 10 bytes count within in (
      digits_more 10 bytes count within digits (omega (arith, spelled)),
      omega (arith, more, spelled, value),
    )

pub spelled_more : (bytes : List ℕ) (count number digit : ℕ) → count < length bytes
    → SpellsFront bytes count number → digit ≤ 9 → digit + 48 ≡ get_or bytes count 0
    → SpellsFront bytes (count + 1) (number * 10 + digit)
spelled_more bytes count number digit within so_far few is =
    let more = more_digit bytes count number digit within so_far.digits so_far.value few is in
    record { within = omega arith; digits = more.0; value = more.1; plain = so_far.plain }

-- seven digits are a number below 10^7
pub spelled_short : (bytes : List ℕ) (count number : ℕ) → count ≤ 7
    → SpellsFront bytes count number → number < 10 ^ 7
spelled_short bytes count number few so_far =
    let size = length-take-le count bytes so_far.within in
    let short = digits_value_short digits_model (take count bytes) 7 so_far.digits
    (omega arith) in
    let value = so_far.value in omega arith

-- digits of which the first is no zero have the shape of a decimal
shape_of : (bytes : List ℕ) (count number : ℕ) → 1 ≤ count → count ≤ 7
    → SpellsFront bytes count number → HasDecimalShape (take count bytes)
shape_of bytes count number some few so_far =
    let size = length-take-le count bytes so_far.within in
    let first = get_or-take count bytes 0 0 some in
    record {
      some = omega arith;
      short = omega arith;
      plain = λ zero. absurd (so_far.plain (sym first ∙ zero));
    }

-- they are the first field where no byte follows
pub spelled_last : (bytes : List ℕ) (count number : ℕ) → 1 ≤ count → count ≤ 7
    → SpellsFront bytes count number → count ≡ length bytes
    → cut_fields bytes ≡ decimal number ∷ []
spelled_last bytes count number some few so_far whole =
    let front : IsDigitFront bytes count = record {
      within = so_far.within;
      short = omega arith;
      digits = so_far.digits;
      whole = λ _ less _ _. omega arith;
    } in
    front_last bytes count front number
    (front_decimal bytes count front number (shape_of bytes count number some few so_far)
    so_far.value)
    whole

-- and where a space follows
pub spelled_field : (bytes : List ℕ) (count number : ℕ) → 1 ≤ count → count ≤ 7
    → count < length bytes → SpellsFront bytes count number → get_or bytes count 0 ≡ 32
    → cut_fields bytes ≡ decimal number ∷ cut_fields (drop (count + 1) bytes)
spelled_field bytes count number some few within so_far space =
    let front : IsDigitFront bytes count = record {
      within = so_far.within;
      short = omega arith;
      digits = so_far.digits;
      whole = λ _ _ least _. omega arith;
    } in
    front_space bytes count front number
    (front_decimal bytes count front number (shape_of bytes count number some few so_far)
    so_far.value)
    within space
