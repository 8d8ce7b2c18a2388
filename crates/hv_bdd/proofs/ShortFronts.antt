-- A number of few digits that a line begins with.
use Rattle.std.proofs.Common.{◌≡◌, ◌≢◌, ℕ, ◌+◌, ◌-◌, ◌*◌, ◌<◌, ◌≤◌, ◌^◌, ◌∙◌, List, ◌∷◌, length}
use Rattle.std.proofs.Common.{ap, drop, get_or, get_or-take, inl, inr, length-take-le, arith, take}
use Rattle.std.proofs.Common.{decimal, refl, set, subst, sym}
use Rattle.std.proofs.lemmas.Bool.{cases_eq}
use Rattle.std.proofs.lemmas.List.{get_or-set_other, get_or-set_same}
use Rattle.hv_bytes.specs.Fields.{cut_fields}
use Rattle.hv_bytes.specs.Working.Decimals.{HasDecimalShape}
use Rattle.hv_bytes.specs.Working.Fronts.{IsDigitFront}
use Rattle.hv_bytes.proofs.DecimalFronts.{front_decimal, front_space}
use Rattle.hv_bytes.proofs.ShortFronts.{more_digit}
use Rattle.hv_bdd.specs.Working.Digits.{AreDigits, SpellsNumber}

-- before the first one
pub spelled_none : (bytes : List ℕ) → get_or bytes 0 0 ≢ 48 → SpellsNumber bytes 0 0
spelled_none bytes plain = record {
  digits = tt;
  value = refl;
  plain = plain;
}

-- a digit more
spelled_more : (bytes : List ℕ) (count number digit : ℕ) → count < length bytes
    → SpellsNumber bytes count number → digit ≤ 9 → digit + 48 ≡ get_or bytes count 0
    → SpellsNumber bytes (count + 1) (number * 10 + digit)
spelled_more bytes count number digit within so_far few is =
    let more = more_digit bytes count number digit within so_far.digits so_far.value few is in
    record { digits = more.0; value = more.1; plain = so_far.plain }

-- a space behind them ends the first field
pub spelled_field : (bytes : List ℕ) (count number : ℕ) → 1 ≤ count → count ≤ 7
    → count < length bytes → SpellsNumber bytes count number → get_or bytes count 0 ≡ 32
    → cut_fields bytes ≡ decimal number ∷ cut_fields (drop (count + 1) bytes)
spelled_field bytes count number some few within so_far space =
    let size = length-take-le count bytes (omega arith) in
    let front : IsDigitFront bytes count = record {
      within = omega arith;
      short = omega arith;
      digits = so_far.digits;
      whole = λ _ _ least _. omega arith;
    } in
    let first = get_or-take count bytes 0 0 some in
    let shape : HasDecimalShape (take count bytes) = record {
      some = omega arith;
      short = omega arith;
      plain = λ zero. absurd (so_far.plain (sym first ∙ zero));
    } in
    front_space bytes count front number
    (front_decimal bytes count front number shape so_far.value) within space

-- The table of digits.

pub no_digits : (digits : List ℕ) → ((k : ℕ) → k < 512 → get_or digits k 0 ≡ 2 ^ 32)
    → AreDigits digits
no_digits digits none = record {
  most = λ k less. let e = none k less in omega arith;
  unit = λ b less few. let e = none b (omega arith) in absurd (omega arith);
  tens = λ b less few. let e = none (256 + b) (omega arith) in absurd (omega arith);
}

-- a number is written at the place of one digit, as it is or ten times
module _ (digits : List ℕ) (size : length digits ≡ 512) (old : AreDigits digits) where
  here : (at value k : ℕ) → at < 512 → k ≡ at → get_or (set digits at value) k 0 ≡ value
  here at value k less same =
      ap (λ j. get_or (set digits at value) j 0) same
      ∙ get_or-set_same digits at value 0 (omega arith)

  there : (at value k : ℕ) → (k ≡ at → ⊥) → get_or (set digits at value) k 0 ≡ get_or digits k 0
  there at value k other = get_or-set_other digits at k value 0 other

  most_more : (at value : ℕ) → at < 512 → value ≤ 2 ^ 32 → (k : ℕ) → k < 512
      → get_or (set digits at value) k 0 ≤ 2 ^ 32
  most_more at value within few k less = elim (cases_eq k at) [
    | inl same ↦ let e = here at value k within same in omega arith
    | inr other ↦ let e = there at value k other in let upto = old.most k less in omega arith
  ]

  pub one_digit : (digit : ℕ) → digit < 10 → AreDigits (set digits (48 + digit) digit)
  one_digit digit few = record {
    most = most_more (48 + digit) digit (omega arith) (omega arith);
    unit = λ b less under. elim (cases_eq b (48 + digit)) [
      | inl same ↦
          let e = here (48 + digit) digit b (omega arith) same in
          ((omega arith, omega arith), omega arith)
      | inr other ↦
          let e = there (48 + digit) digit b other in
          let is = old.unit b less (omega arith) in
          let at = is.1 in (is.0, omega arith)
    ];
    tens = λ b less under.
        let e = there (48 + digit) digit (256 + b) (λ same. omega arith) in
        let is = old.tens b less (omega arith) in
        let at = is.1 in (is.0, omega arith);
  }

  pub ten_times : (digit : ℕ) → digit < 10 → AreDigits (set digits (304 + digit) (digit * 10))
  ten_times digit few = record {
    most = most_more (304 + digit) (digit * 10) (omega arith) (omega arith);
    unit = λ b less under.
        let e = there (304 + digit) (digit * 10) b (λ same. omega arith) in
        let is = old.unit b less (omega arith) in
        let at = is.1 in (is.0, omega arith);
    tens = λ b less under. elim (cases_eq (256 + b) (304 + digit)) [
      | inl same ↦
          let e = here (304 + digit) (digit * 10) (256 + b) (omega arith) same in
          ((omega arith, omega arith), omega arith)
      | inr other ↦
          let e = there (304 + digit) (digit * 10) (256 + b) other in
          let is = old.tens b less (omega arith) in
          let at = is.1 in (is.0, omega arith)
    ];
  }

-- a number with one more digit, where all are digits
pub more_spelled : (digits bytes : List ℕ) (count number next : ℕ) → AreDigits digits
    → count < length bytes → get_or bytes count 0 < 256
    → next ≡ number * 10 + get_or digits (get_or bytes count 0) 0 → next < 2 ^ 32
    → SpellsNumber bytes count number → SpellsNumber bytes (count + 1) next
more_spelled digits bytes count number next table within byte is few so_far =
    let digit = table.unit (get_or bytes count 0) byte (omega arith) in
    let upto = digit.0.1 in
    let at = digit.1 in
    subst (λ n. SpellsNumber bytes (count + 1) n) (sym is)
    (spelled_more bytes count number (get_or digits (get_or bytes count 0) 0) within so_far
    (omega arith) at)

-- and with two more
pub pair_spelled : (digits bytes : List ℕ) (count number next : ℕ) → AreDigits digits
    → count + 1 < length bytes → get_or bytes count 0 < 256 → get_or bytes (count + 1) 0 < 256
    → next ≡ number * 100 + get_or digits (256 + get_or bytes count 0) 0
    + get_or digits (get_or bytes (count + 1) 0) 0
    → next < 2 ^ 32 → SpellsNumber bytes count number → SpellsNumber bytes (count + 2) next
pair_spelled digits bytes count number next table within byte other is few so_far =
    let tens = table.tens (get_or bytes count 0) byte (omega arith) in
    let unit = table.unit (get_or bytes (count + 1) 0) other (omega arith) in
    let first = get_or bytes count 0 - 48 in
    let second = get_or digits (get_or bytes (count + 1) 0) 0 in
    let low = tens.0.0 in
    let high = tens.0.1 in
    let ten = tens.1 in
    let upto = unit.0.1 in
    let at = unit.1 in
    let one : count + 1 + 1 ≡ count + 2 = omega arith in
    let same : (number * 10 + first) * 10 + second ≡ next = omega arith in
    subst (λ c. SpellsNumber bytes c next) one
    (subst (λ n. SpellsNumber bytes (count + 1 + 1) n) same
    (spelled_more bytes (count + 1) (number * 10 + first) second within
    (spelled_more bytes count number first (omega arith) so_far (omega arith) (omega arith))
    (omega arith) at))
