-- The table of words: each word is in the list of all words, no two are spelled alike, and a
-- spelling is no other token.
use Rattle.std.proofs.Common.{◌≡◌, ℕ, ◌<◌, ◌≤◌, ◌∙◌, ◌&&◌, Bool, true, false, cond, eqb, ltb, List}
use Rattle.std.proofs.Common.{[], ◌∷◌, Option, Some, None, get_or, refl, sym, ap, subst, arith}
use Rattle.std.proofs.lemmas.Bool.{and_parts, ltb-true}
use Rattle.std.proofs.lemmas.List.Elements.{All-contains}
use Rattle.std.proofs.lemmas.List.Sums.{AllPass-from_list_all}
use Rattle.std.specs.List.{Contains}
use Rattle.hv_lines.specs.Spelling.{premises_of, word_field}
use Rattle.hv_lines.specs.Words.{is_kind, kind_of_statement, word_row}
use Rattle.hv_lines.specs.declared.line.Statement.{Statement}
use Rattle.hv_lines.specs.declared.line.Word.{Word}
use Rattle.hv_lines.specs.declared.line.Word.TheVariants as W
use Rattle.hv_lines.proofs.Elements.{head_in, tail_in}

abbrev pub all_words : List Word
all_words =
    W.B1 ∷ W.B2 ∷ W.B3 ∷ W.B4 ∷ W.B5 ∷ W.Ed ∷ W.Ud ∷
    W.Sd ∷ W.Pg ∷ W.Pi ∷ W.Rg ∷ W.Ri ∷ W.Ci ∷ W.Cg ∷
    W.Ur ∷ W.Ul ∷ W.Ir ∷ W.Il ∷ W.Di ∷ W.Su ∷ W.Si ∷
    W.St ∷ W.At ∷ W.Au ∷ W.Pt ∷ W.Pu ∷ W.Pr ∷ W.Rp ∷ []

-- whether the field begins with the two bytes of the spelling
abbrev same_bytes : List ℕ → List ℕ → Bool
same_bytes spelling field = eqb (get_or spelling 0 0) (get_or field 0 0)
    && eqb (get_or spelling 1 0) (get_or field 1 0)

-- the first of the words that is spelled so
abbrev found_in : List Word → List ℕ → Option Word
found_in [] field = None
found_in (word ∷ words) field = cond (same_bytes (word_field word) field) (Some word)
    (found_in words field)

abbrev pub word_of_field : List ℕ → Option Word
word_of_field field = found_in all_words field

-- the one line of a word in the proofs: it is found by its spelling
pub word_read : (word : Word) → word_of_field (word_field word) ≡ Some word
word_read W.B1 = refl
word_read W.B2 = refl
word_read W.B3 = refl
word_read W.B4 = refl
word_read W.B5 = refl
word_read W.Ed = refl
word_read W.Ud = refl
word_read W.Sd = refl
word_read W.Pg = refl
word_read W.Pi = refl
word_read W.Rg = refl
word_read W.Ri = refl
word_read W.Ci = refl
word_read W.Cg = refl
word_read W.Ur = refl
word_read W.Ul = refl
word_read W.Ir = refl
word_read W.Il = refl
word_read W.Di = refl
word_read W.Su = refl
word_read W.Si = refl
word_read W.St = refl
word_read W.At = refl
word_read W.Au = refl
word_read W.Pt = refl
word_read W.Pu = refl
word_read W.Pr = refl
word_read W.Rp = refl

-- what is found in a list is there
found_there : (words : List Word) (field : List ℕ) (word : Word) → found_in words field ≡ Some word
    → Contains words word
found_there [] field word is = cc (is)
found_there (first ∷ words) field word is =
    by (same_bytes (word_field first) field) refl (found_there words field word)
  where
    by : (b : Bool) → same_bytes (word_field first) field ≡ b
        → (found_in words field ≡ Some word → Contains words word)
        → Contains (first ∷ words) word
    by true e further =
        let found : Some first ≡ Some word = rw e at is in let same : first ≡ word = cc (found) in
        subst (Contains (first ∷ words)) same (head_in first words)
    by false e further = tail_in first words word (further (rw e at is))

-- each word is in the list
pub every_word : (word : Word) → Contains all_words word
every_word word = found_there all_words (word_field word) word (word_read word)

-- a spelling is two bytes, of which the first is a letter and the second a letter or a digit
abbrev is_plain : List ℕ → Bool
is_plain (first ∷ second ∷ []) = ltb 96 first && ltb 47 second
is_plain _ = false

pub record IsPlain (field : List ℕ) : Type 0 where
  pub first : ℕ
  pub second : ℕ
  pub two : field ≡ first ∷ second ∷ []
  pub letter : 96 < first
  pub other : 47 < second

plain_from : (field : List ℕ) → is_plain field ≡ true → IsPlain field
plain_from [] is = cc (is)
plain_from (first ∷ []) is = cc (is)
plain_from (first ∷ second ∷ []) is = record {
  first = first;
  second = second;
  two = refl;
  letter = ltb-true 96 first (and_parts (ltb 96 first) (ltb 47 second) is).0;
  other = ltb-true 47 second (and_parts (ltb 96 first) (ltb 47 second) is).1;
}
plain_from (first ∷ second ∷ third ∷ rest) is = cc (is)

pub word_plain : (word : Word) → IsPlain (word_field word)
word_plain word =
    plain_from (word_field word)
    (All-contains (λ w. is_plain (word_field w) ≡ true) all_words word
    (AllPass-from_list_all (λ w. is_plain (word_field w)) all_words refl) (every_word word))

-- no word has more than three premises
pub premises_few : (statement : Statement) (word : Word) (n : ℕ)
    → premises_of statement word ≡ Some n → n ≤ 3
premises_few statement word n is = by (is_kind (word_row word).after (kind_of_statement statement))
    is
  where
    few : (word_row word).premises < 4
    few =
        ltb-true (word_row word).premises 4
        (All-contains (λ w. ltb (word_row w).premises 4 ≡ true) all_words word
        (AllPass-from_list_all (λ w. ltb (word_row w).premises 4) all_words refl) (every_word word))

    by : (b : Bool) → cond b (Some (word_row word).premises) None ≡ Some n → n ≤ 3
    by true same = let e : (word_row word).premises ≡ n = cc (same) in omega (arith, few, e)
    by false same = absurd (cc (same))
