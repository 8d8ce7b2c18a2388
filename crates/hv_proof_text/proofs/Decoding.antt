-- A field denotes one token: tokens are read back from their fields.
use Rattle.std.proofs.Common.{◌≡◌, ℕ, ◌<◌, ◌≤◌, ◌^◌, ◌∙◌, true, false, cond, eqb, ltb, List, []}
use Rattle.std.proofs.Common.{◌∷◌, Option, None, Some, map, drop, get_or, refl, sym, ap}
use Rattle.std.proofs.Common.{arith, decimal, lit<}
use Rattle.std.proofs.lemmas.Bool.{le-ltb, lt-ltb, ne_eqb}
use Rattle.std.proofs.lemmas.Fmt.{decimal_is_IsNumeral}
use Rattle.std.proofs.lemmas.List.Elements.{All-nil, All-cons, All-head, All-tail, All-from_get_or}
use Rattle.std.proofs.lemmas.List.Splits.{slice_split_at, slice_split_none}
use Rattle.std.proofs.lemmas.Str.Parse.{digit_at}
use Rattle.std.specs.List.{All, join_with_byte}
use Rattle.std.specs.Str.Parse.{digits_value}
use Rattle.hv_lines.specs.Spelling.{word_field}
use Rattle.hv_lines.specs.declared.line.Word.{Word}
use Rattle.hv_lines.proofs.WordTable.{word_of_field, word_plain, word_read}
use Rattle.hv_proof_text.specs.declared.token.Letter.{Letter}
use Rattle.hv_proof_text.specs.declared.token.Letter.TheVariants as L
use Rattle.hv_proof_text.specs.declared.token.Token.{Token}
use Rattle.hv_proof_text.specs.declared.token.Token.TheVariants as T
use Rattle.hv_bytes.specs.Fields.{cut_fields}
use Rattle.hv_proof_text.specs.Working.Tokens.{IsToken, field_of, letter_field}

-- the token of one byte that is no digit
abbrev letter_by : ℕ → Token
letter_by code =
    cond (eqb code 97) (T.Letter L.A) (cond (eqb code 98) (T.Letter L.B)
    (cond (eqb code 99) (T.Letter L.C)
    (cond (eqb code 100) (T.Letter L.D) (cond (eqb code 101) (T.Letter L.E)
    (cond (eqb code 103) (T.Letter L.G)
    (cond (eqb code 104) (T.Letter L.H) (cond (eqb code 105) (T.Letter L.I)
    (cond (eqb code 107) (T.Letter L.K)
    (cond (eqb code 110) (T.Letter L.N) (cond (eqb code 112) (T.Letter L.P)
    (cond (eqb code 114) (T.Letter L.R)
    (cond (eqb code 115) (T.Letter L.S) (cond (eqb code 116) (T.Letter L.T)
    (cond (eqb code 117) (T.Letter L.U)
    (cond (eqb code 120) (T.Letter L.X) T.End)))))))))))))))

-- the token of a word that was found
abbrev word_by : Option Word → Token
word_by None = T.End
word_by (Some word) = T.Word word

-- the token of a field
abbrev decode : List ℕ → Token
decode field =
    cond (eqb (get_or field 0 0) 45) (T.Minus (digits_value 10 (drop 1 field)))
    (cond (ltb (get_or field 0 0) 58) (T.Number (digits_value 10 field))
    (cond (eqb (get_or field 1 0) 0) (letter_by (get_or field 0 0))
    (word_by (word_of_field field))))

decode_letter : (letter : Letter) → decode (letter_field letter) ≡ T.Letter letter
decode_letter L.A = refl
decode_letter L.B = refl
decode_letter L.C = refl
decode_letter L.D = refl
decode_letter L.E = refl
decode_letter L.G = refl
decode_letter L.H = refl
decode_letter L.I = refl
decode_letter L.K = refl
decode_letter L.N = refl
decode_letter L.P = refl
decode_letter L.R = refl
decode_letter L.S = refl
decode_letter L.T = refl
decode_letter L.U = refl
decode_letter L.X = refl

decode_word : (word : Word) → decode (word_field word) ≡ T.Word word
decode_word word =
    let plain = word_plain word in
    let first : get_or (word_field word) 0 0 ≡ plain.first = ap
    (λ field. get_or field 0 0) plain.two in
    let second : get_or (word_field word) 1 0 ≡ plain.second = ap
    (λ field. get_or field 1 0) plain.two in
    let a : eqb (get_or (word_field word) 0 0) 45 ≡ false = ne_eqb (get_or (word_field word) 0 0) 45
    (λ e. omega (arith, plain.letter, first, e)) in
    let b : ltb (get_or (word_field word) 0 0) 58
    ≡ false = le-ltb (get_or (word_field word) 0 0) 58 (omega (arith, plain.letter, first)) in
    let d : eqb (get_or (word_field word) 1 0) 0 ≡ false = ne_eqb (get_or (word_field word) 1 0) 0
    (λ e. omega (arith, plain.other, second, e)) in
    rw (a, b, d) (ap word_by (word_read word))

-- a decimal begins with a digit
first_digit : (n : ℕ) → n < 10 ^ 18 → (48 ≤ get_or (decimal n) 0 0) × (get_or (decimal n) 0 0 ≤ 57)
first_digit n short =
    let is = decimal_is_IsNumeral n (omega arith) in digit_at (decimal n) 0 is.0.1 is.0.0

decode_number : (n : ℕ) → n < 10 ^ 18 → decode (decimal n) ≡ T.Number n
decode_number n short =
    let is = decimal_is_IsNumeral n (omega arith) in
    let digit = first_digit n short in
    let a : eqb (get_or (decimal n) 0 0) 45 ≡ false = ne_eqb (get_or (decimal n) 0 0) 45
    (λ e. omega arith) in
    let b : ltb (get_or (decimal n) 0 0) 58
    ≡ true = lt-ltb (get_or (decimal n) 0 0) 58 (omega arith) in
    rw (a, b) (ap (λ m. T.Number m) is.1)

decode_token : (token : Token) → IsToken token → decode (field_of token) ≡ token
decode_token (T.Letter letter) short = decode_letter letter
decode_token (T.Word word) short = decode_word word
decode_token (T.Number n) short = decode_number n short
decode_token (T.Minus n) short = let is = decimal_is_IsNumeral n (omega arith) in
    ap (λ m. T.Minus m) is.1
decode_token T.End short = refl

decode_all : (tokens : List Token) → All IsToken tokens → map decode (map field_of tokens) ≡ tokens
decode_all [] short = refl
decode_all (token ∷ tokens) short =
    ap (λ t. t ∷ map decode (map field_of tokens))
    (decode_token token (All-head IsToken token tokens short))
    ∙ ap (λ ts. token ∷ ts) (decode_all tokens (All-tail IsToken token tokens short))

-- the same fields denote the same tokens
pub same_tokens : (xs ys : List Token) → All IsToken xs → All IsToken ys
    → map field_of xs ≡ map field_of ys → xs ≡ ys
same_tokens xs ys left right e = sym (decode_all xs left) ∙ ap (map decode) e ∙ decode_all ys right

-- a field has visible bytes alone: no space, and no LF

abbrev pub IsVisible : List ℕ → Type 0
IsVisible field = All (λ b. 32 < b) field

visible_digits : (n : ℕ) → n < 10 ^ 18 → IsVisible (decimal n)
visible_digits n short =
    let is = decimal_is_IsNumeral n (omega arith) in
    All-from_get_or (λ b. 32 < b) (decimal n) 0
    (λ i within. let digit = digit_at (decimal n) i is.0.1 within in omega (arith, digit.0))

one_byte : (b : ℕ) → 32 < b → IsVisible (b ∷ [])
one_byte b e = All-cons (λ b. 32 < b) b [] e (All-nil (λ b. 32 < b))

two_bytes : (b c : ℕ) → 32 < b → 32 < c → IsVisible (b ∷ c ∷ [])
two_bytes b c e f = All-cons (λ b. 32 < b) b (c ∷ []) e (one_byte c f)

visible_letter : (letter : Letter) → IsVisible (letter_field letter)
visible_letter L.A = one_byte 97 (lit< tt)
visible_letter L.B = one_byte 98 (lit< tt)
visible_letter L.C = one_byte 99 (lit< tt)
visible_letter L.D = one_byte 100 (lit< tt)
visible_letter L.E = one_byte 101 (lit< tt)
visible_letter L.G = one_byte 103 (lit< tt)
visible_letter L.H = one_byte 104 (lit< tt)
visible_letter L.I = one_byte 105 (lit< tt)
visible_letter L.K = one_byte 107 (lit< tt)
visible_letter L.N = one_byte 110 (lit< tt)
visible_letter L.P = one_byte 112 (lit< tt)
visible_letter L.R = one_byte 114 (lit< tt)
visible_letter L.S = one_byte 115 (lit< tt)
visible_letter L.T = one_byte 116 (lit< tt)
visible_letter L.U = one_byte 117 (lit< tt)
visible_letter L.X = one_byte 120 (lit< tt)

visible_word : (word : Word) → IsVisible (word_field word)
visible_word word =
    let plain = word_plain word in
    rw plain.two (two_bytes plain.first plain.second (omega (arith, plain.letter))
    (omega (arith, plain.other)))

pub visible_field : (token : Token) → IsToken token → IsVisible (field_of token)
visible_field (T.Letter letter) short = visible_letter letter
visible_field (T.Word word) short = visible_word word
visible_field (T.Number n) short = visible_digits n short
visible_field (T.Minus n) short = All-cons
    (λ b. 32 < b) 45 (decimal n) (lit< tt) (visible_digits n short)
visible_field T.End short = one_byte 59 (lit< tt)

clear_field : (token : Token) → IsToken token → All (λ b. eqb b 32 ≡ false) (field_of token)
clear_field token short = λ i d within.
    let visible = visible_field token short i d within in
    ne_eqb (get_or (field_of token) i d) 32 (λ e. omega (arith, visible, e))

-- the joined fields of tokens, cut again
pub cut_joined : (token : Token) (tokens : List Token) → All IsToken (token ∷ tokens)
    → cut_fields (join_with_byte 32 (map field_of (token ∷ tokens))) ≡ map field_of (token ∷ tokens)
cut_joined token [] short =
    slice_split_none (λ b. eqb b 32) (field_of token)
    (clear_field token (All-head IsToken token [] short))
cut_joined token (next ∷ tokens) short =
    slice_split_at (λ b. eqb b 32) (field_of token) 32
    (join_with_byte 32 (map field_of (next ∷ tokens)))
    (clear_field token (All-head IsToken token (next ∷ tokens) short)) refl
    ∙ ap (λ fs. field_of token ∷ fs) (cut_joined next tokens
    (All-tail IsToken token (next ∷ tokens) short))
