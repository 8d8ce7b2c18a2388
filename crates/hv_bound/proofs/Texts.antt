-- What comes of the lines of a plan file.
use Rattle.std.proofs.Common.{◌≡◌, ℕ, ◌+◌, ◌∙◌, ◌++◌, ◌∷◌, [], List, Option, Some, None, Ok, Err}
use Rattle.std.proofs.Common.{◌⊎◌, eqb, length, refl, ap, sym, subst, inl, inr, arith}
use Rattle.std.proofs.lemmas.Bool.{cases_eq, cond-true, cond-false, eq-eqb, ne_eqb}
use Rattle.std.proofs.lemmas.Fmt.{decimal_is_IsNumeral}
use Rattle.std.proofs.lemmas.List.{append-nil, append_assoc}
use Rattle.std.specs.Str.Parse.{IsNumeral}
use Rattle.hv_bytes.specs.Decimals.{IsShortDecimal}
use Rattle.hv_bytes.specs.Pieces.{PieceBytes, as_pieces}
use Rattle.hv_grammar.specs.Forms.{short_decimal_of}
use Rattle.hv_grammar.specs.Parsers.{long, many, parsed, refused}
use Rattle.hv_grammar.proofs.Numerals.{is_short_of, short_answer, short_of}
use Rattle.hv_bound.specs.PlanFile.{plan_file, plan_line, spelled_step, step_in}
use Rattle.hv_bound.specs.PlanText.{ArePlanTextOf, IsNoPlanLine, IsOneOfThree, SaysNoStep}

-- a short decimal isn't empty, and begins with a digit
numeral : (line : List ℕ) (n : ℕ) → IsShortDecimal line n → IsNumeral 10 line
numeral line n is =
    let short = is.short in
    subst (IsNumeral 10) (sym is.spelled) (decimal_is_IsNumeral n (omega arith)).0

skipped_line : (line : List ℕ) → SaysNoStep line → step_in line ≡ Ok None
skipped_line [] skipped = refl
skipped_line (b ∷ line) (inl none) = absurd cc
skipped_line (b ∷ line) (inr some) =
    let e : b ≡ 35 = let h = some.1 in cc in
    cond-true (eqb b 35) (Ok None) (spelled_step (short_decimal_of (b ∷ line))) (eq-eqb b 35 e)

step_line : (line : List ℕ) (n : ℕ) → IsShortDecimal line n → step_in line ≡ Ok (Some n)
step_line [] n is = let some = (numeral [] n is).0 in absurd (omega arith)
step_line (b ∷ line) n is =
    let digits = (numeral (b ∷ line) n is).1 in
    elim (cases_eq b 35) [
      | inl e ↦ absurd (
          let low = subst (λ c. IsNumeral 10 (c ∷ line)) e (numeral (b ∷ line) n is) in
          let digit = low.1.0 in omega arith)
      | inr ne ↦
          cond-false (eqb b 35) (Ok None) (spelled_step (short_decimal_of (b ∷ line)))
          (ne_eqb b 35 ne)
          ∙ ap spelled_step (short_of (b ∷ line) n is)
    ]

no_line : (line : List ℕ) → IsNoPlanLine line → step_in line ≡ Err tt
no_line [] neither = absurd (neither.0 (inl refl))
no_line (b ∷ line) neither =
    elim (cases_eq b 35) [
      | inl e ↦ absurd (neither.0 (inr (line, ap (λ c. c ∷ line) e)))
      | inr ne ↦
          cond-false (eqb b 35) (Ok None) (spelled_step (short_decimal_of (b ∷ line)))
          (ne_eqb b 35 ne)
          ∙ ap spelled_step (sym (short_answer (b ∷ line) None tt neither.1))
    ]

-- lines that say steps are read, and what follows them comes next
pub after_lines : (lines : List (List ℕ)) (steps earlier : List ℕ) (n : ℕ) (rest : List PieceBytes)
    → ArePlanTextOf lines steps
    → many plan_line earlier n (as_pieces lines ++ rest)
    ≡ many plan_line (earlier ++ steps) (n + length lines) rest
after_lines [] steps earlier n rest none =
    ap (λ xs. many plan_line xs n rest) (sym (append-nil earlier))
    ∙ ap (λ xs. many plan_line (earlier ++ xs) n rest) (sym none)
    ∙ ap (λ m. many plan_line (earlier ++ steps) m rest)
    (let e : n ≡ n + length {A = List ℕ} [] = omega arith in e)
after_lines (line ∷ lines) steps earlier n rest (inl (skipped, later)) =
    rw (skipped_line line skipped)
    (after_lines lines steps (earlier ++ []) (n + 1) rest later
    ∙ ap (λ xs. many plan_line (xs ++ steps) (n + 1 + length lines) rest) (append-nil earlier)
    ∙ ap (λ m. many plan_line (earlier ++ steps) m rest)
    (let e : n + 1 + length lines ≡ n + length (line ∷ lines) = omega arith in e))
after_lines (line ∷ lines) steps earlier n rest (inr (k, more, is, same, later)) =
    rw (step_line line k is)
    (after_lines lines more (earlier ++ k ∷ []) (n + 1) rest later
    ∙ ap (λ xs. many plan_line xs (n + 1 + length lines) rest)
    (append_assoc earlier (k ∷ []) more ∙ ap (λ xs. earlier ++ xs) (sym same))
    ∙ ap (λ m. many plan_line (earlier ++ steps) m rest)
    (let e : n + 1 + length lines ≡ n + length (line ∷ lines) = omega arith in e))

zero_more : (n : ℕ) → 0 + n ≡ n
zero_more n = omega arith

pub gives_steps : (lines : List (List ℕ)) (steps : List ℕ) → ArePlanTextOf lines steps
    → plan_file 0 (as_pieces lines) ≡ parsed steps (length lines) []
gives_steps lines steps are =
    ap (plan_file 0) (sym (append-nil (as_pieces lines))) ∙ after_lines lines steps [] 0 [] are
    ∙ ap (λ m. parsed steps m []) (zero_more (length lines))

pub names_place : (before : List (List ℕ)) (steps line : List ℕ) (rest : List PieceBytes)
    → ArePlanTextOf before steps → IsNoPlanLine line
    → plan_file 0 (as_pieces before ++ Some line ∷ rest) ≡ refused (length before + 1) tt
names_place before steps line rest are neither =
    after_lines before steps [] 0 (Some line ∷ rest) are
    ∙ rw (no_line line neither) (ap (λ m. refused (m + 1) tt) (zero_more (length before)))

pub names_limit : (before : List (List ℕ)) (steps : List ℕ) (rest : List PieceBytes)
    → ArePlanTextOf before steps
    → plan_file 0 (as_pieces before ++ None ∷ rest) ≡ long (length before + 1)
names_limit before steps rest are =
    after_lines before steps [] 0 (None ∷ rest) are
    ∙ ap (λ m. long (m + 1)) (zero_more (length before))

-- Each file is of one of three kinds.

short_or_not : (line : List ℕ) (o : Option ℕ) → short_decimal_of line ≡ o
    → ((n : ℕ) × IsShortDecimal line n) ⊎ ((n : ℕ) → IsShortDecimal line n → ⊥)
short_or_not line None e = inr (λ n is. let some = short_of line n is in absurd cc)
short_or_not line (Some n) e = inl (n, is_short_of line n e)

line_kinds : (line : List ℕ)
    → SaysNoStep line ⊎ (((n : ℕ) × IsShortDecimal line n) ⊎ IsNoPlanLine line)
line_kinds [] = inl (inl refl)
line_kinds (b ∷ line) =
    elim (cases_eq b 35) [
      | inl e ↦ inl (inr (line, ap (λ c. c ∷ line) e))
      | inr ne ↦
          elim (short_or_not (b ∷ line) (short_decimal_of (b ∷ line)) refl) [
            | inl is ↦ inr (inl is)
            | inr never ↦ inr (inr (
              λ skipped. elim skipped [
                | inl none ↦ absurd cc
                | inr some ↦ ne (let h = some.1 in cc)
              ],
              never,
            ))
          ]
    ]

-- a file with a line more in front, which is skipped or says a step
kinds_more : (line : List ℕ) (pieces : List PieceBytes)
    → ((lines : List (List ℕ)) (steps : List ℕ) → ArePlanTextOf lines steps
    → (all : List ℕ) × ArePlanTextOf (line ∷ lines) all)
    → IsOneOfThree pieces → IsOneOfThree (Some line ∷ pieces)
kinds_more line pieces more (inl good) =
    let all = more good.0 good.1 good.2 in
    inl (line ∷ good.0, all.0, all.1, ap (λ ps. Some line ∷ ps) good.3)
kinds_more line pieces more (inr (inl place)) =
    let all = more place.0 place.1 place.4 in
    inr (inl (
      line ∷ place.0,
      all.0,
      place.2,
      place.3,
      all.1,
      place.5,
      ap (λ ps. Some line ∷ ps) place.6,
    ))
kinds_more line pieces more (inr (inr limit)) =
    let all = more limit.0 limit.1 limit.3 in
    inr (inr (line ∷ limit.0, all.0, limit.2, all.1, ap (λ ps. Some line ∷ ps) limit.4))

pub one_of_three : (pieces : List PieceBytes) → IsOneOfThree pieces
one_of_three [] = inl ([], [], refl, refl)
one_of_three (None ∷ pieces) = inr (inr ([], [], pieces, refl, refl))
one_of_three (Some line ∷ pieces) =
    elim (line_kinds line) [
      | inl skipped ↦ kinds_more line pieces (λ lines steps are. (steps, inl (skipped, are)))
          (one_of_three pieces)
      | inr (inl is) ↦ kinds_more line pieces
          (λ lines steps are. (is.0 ∷ steps, inr (is.0, steps, is.1, refl, are)))
          (one_of_three pieces)
      | inr (inr neither) ↦ inr (inl ([], [], line, pieces, refl, neither, refl))
    ]
