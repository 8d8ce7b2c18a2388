-- The decimal that a line begins with.
use Rattle.std.proofs.Common.{◌≡◌, ◌≢◌, ℕ, suc, ◌+◌, ◌<◌, ◌≤◌, ◌^◌, ◌⊎◌, List, [], ◌∷◌, length}
use Rattle.std.proofs.Common.{take, drop, get_or, get_or-take, length-take-le, sym, subst, ap, ◌∙◌}
use Rattle.std.proofs.Common.{arith, inl, inr, ⊎_elim, take_all, decimal}
use Rattle.std.specs.Str.Parse.{AllDigits, digits_value}
use Rattle.std.proofs.lemmas.Bool.{cases_eq, cases_lt, cases_order}
use Rattle.std.proofs.lemmas.Grind.{get_or_default_zero}
use Rattle.std.proofs.lemmas.List.{drop-drop, drop_more}
use Rattle.std.proofs.lemmas.List.Elements.{All-cons, All-nil}
use Rattle.std.proofs.lemmas.Str.Parse.{digit_at, digits_value_short}
use Rattle.hv_bytes.specs.Decimals.{IsDecimal}
use Rattle.hv_bytes.specs.Fields.{HasNoSpace, cut_fields}
use Rattle.hv_bytes.specs.Working.Decimals.{HasDecimalShape}
use Rattle.hv_bytes.specs.Working.Fields.{IsFirstSpace}
use Rattle.hv_bytes.specs.Working.Fronts.{IsDigitFront}
use Rattle.hv_bytes.proofs.DecimalTexts.{IsDecimal-digits, decimal_digit_at, decimal_shape}
use Rattle.hv_bytes.proofs.DecimalTexts.{digits_model}
use Rattle.hv_bytes.proofs.LineFields.{cut_fields-at, cut_fields-last}

-- fewer than 18 digits leave space for one more
pub front_room : (bytes : List ℕ) (count : ℕ) → count ≤ length bytes → count < 18
    → AllDigits 10 (take count bytes) → digits_value 10 (take count bytes) < 10 ^ 17
front_room bytes count within short digits =
    digits_value_short digits_model (take count bytes) 17 digits
    (omega (arith, length-take-le count bytes within))

module _ (line : List ℕ) (count : ℕ) (front : IsDigitFront line count) where
  -- digits of a decimal's shape are a decimal
  pub front_decimal : (number : ℕ) → HasDecimalShape (take count line)
      → number ≡ digits_value 10 (take count line) → IsDecimal (take count line) number
  front_decimal number shape e = subst (IsDecimal (take count line)) (sym e)
      (IsDecimal-digits (take count line) shape front.digits)

  front_clean : HasNoSpace (take count line)
  front_clean = λ k d less e.
      let at = digit_at (take count line) k front.digits less in
      let first = at.0 in
      let z = get_or_default_zero (take count line) k d less in
      absurd (omega arith)

  -- no byte follows
  pub front_last : (number : ℕ) → IsDecimal (take count line) number → count ≡ length line
      → cut_fields line ≡ decimal number ∷ []
  front_last number is whole =
      ap cut_fields (sym (take_all count line (omega arith)))
      ∙ cut_fields-last (take count line) front_clean ∙ ap (λ f. f ∷ []) is.spelled

  -- a space follows
  pub front_space : (number : ℕ) → IsDecimal (take count line) number → count < length line
      → get_or line count 0 ≡ 32
      → cut_fields line ≡ decimal number ∷ cut_fields (drop (count + 1) line)
  front_space number is less space =
      cut_fields-at line count (record {
        within = less;
        clean = front_clean;
        here = drop_more line count 0 less ∙ ap (λ b. b ∷ drop (count + 1) line) space;
      })
      ∙ ap (λ f. f ∷ cut_fields (drop (count + 1) line)) is.spelled

-- bytes have no space, or a first one
first_space : (line : List ℕ) → HasNoSpace line ⊎ ((at : ℕ) × IsFirstSpace line at)
first_space [] = inl (All-nil (λ b. b ≢ 32))
first_space (b ∷ line) =
    ⊎_elim
    (λ e. inr (
      0,
      record {
        within = omega arith;
        clean = All-nil (λ b. b ≢ 32);
        here = ap (λ x. x ∷ line) e;
      },
    ))
    (λ ne. ⊎_elim
    (λ clean. inl (All-cons (λ b. b ≢ 32) b line ne clean))
    (λ later.
    let at = later.0 in
    let one : suc at ≡ 1 + at = omega arith in
    let two : 1 + (at + 1) ≡ suc at + 1 = omega arith in
    inr (
      suc at,
      record {
        within = omega (arith, later.1.within);
        clean = All-cons (λ b. b ≢ 32) b (take at line) ne later.1.clean;
        here = ap (λ k. drop k (b ∷ line)) one ∙ sym (drop-drop at 1 (b ∷ line)) ∙ later.1.here
            ∙ ap (λ l. 32 ∷ l) (drop-drop (at + 1) 1 (b ∷ line) ∙ ap (λ k. drop k (b ∷ line)) two);
      },
    ))
    (first_space line))
    (cases_eq b 32)

module _ (line : List ℕ) (count : ℕ) (front : IsDigitFront line count) where
  -- the prefix doesn't end before a decimal that the line begins with
  front_long : (at n : ℕ) → at ≤ length line → IsDecimal (take at line) n → count < at → ⊥
  front_long at n within is less =
      let size = length-take-le at line within in
      let digit = decimal_digit_at (take at line) n is count (omega arith) in
      let same = get_or-take at line count 0 less in
      let short = (decimal_shape (take at line) n is).short in
      front.whole (omega arith) (omega arith) (omega (arith, digit.0)) (omega (arith, digit.1))

  -- nor does it go on behind it
  front_short : (at : ℕ) → IsFirstSpace line at → at < count → ⊥
  front_short at space less =
      let size = length-take-le count line front.within in
      let digit = digit_at (take count line) at front.digits (omega arith) in
      let same = get_or-take count line at 0 less in
      let more = sym (drop_more line at 0 space.within) ∙ space.here in
      let here : get_or line at 0 ≡ 32 = cc in
      omega (arith, digit.0, digit.1)

  -- where the first field is a decimal, the prefix is that field
  pub front_is : (n : ℕ) (later : List (List ℕ)) → n < 10 ^ 18
      → cut_fields line ≡ decimal n ∷ later
      → IsDecimal (take count line) n × (count < length line → get_or line count 0 ≡ 32)
  front_is n later short fields = ⊎_elim
      (λ clean.
      let e = sym (cut_fields-last line clean) ∙ fields in
      let spelled : line ≡ decimal n = cc in
      let all : take (length line) line ≡ line = take_all (length line) line (omega arith) in
      let is : IsDecimal (take (length line) line) n = record {
        spelled = all ∙ spelled;
        short = short;
      } in
      let last : count ≡ length line = ⊎_elim
      (λ less. absurd (front_long (length line) n (omega arith) is less))
      (λ ge. omega (arith, front.within))
      (cases_lt count (length line)) in
      (subst (λ k. IsDecimal (take k line) n) (sym last) is, λ less. absurd (omega arith)))
      (λ found.
      let at = found.0 in
      let space = found.1 in
      let e = sym (cut_fields-at line at space) ∙ fields in
      let spelled : take at line ≡ decimal n = cc in
      let is : IsDecimal (take at line) n = record { spelled = spelled; short = short } in
      let within : at ≤ length line = omega (arith, space.within) in
      let same : at ≡ count = ⊎_elim (λ e. e)
      (⊎_elim (λ less. absurd (front_short at space less))
      (λ less. absurd (front_long at n within is less)))
      (cases_order at count) in
      let more = sym (drop_more line at 0 space.within) ∙ space.here in
      let here : get_or line at 0 ≡ 32 = cc in (
        subst (λ k. IsDecimal (take k line) n) same is,
        λ less. subst (λ k. get_or line k 0 ≡ 32) same here,
      ))
      (first_space line)
