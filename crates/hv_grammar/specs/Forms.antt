-- Forms of lines.
use Rattle.std.specs.Prelude.{◌&&◌, ℕ, ◌^◌, List, [], ◌∷◌, Option, None, Some, Result, Ok, Err}
use Rattle.std.specs.Prelude.{cond, decimal, nat_eq, nat_le, nat_lt, option_and_then}
use Rattle.std.specs.Str.{bytes_eq}
use Rattle.std.specs.Str.Parse.{digits_value}
use Rattle.hv_grammar.specs.Parsers.{Parser, line}

-- the number that the bytes spell, in at most 18 digits and without a leading zero
abbrev pub decimal_of : List ℕ → Option ℕ
decimal_of bytes =
    cond (bytes_eq bytes (decimal (digits_value 10 bytes)) && nat_lt (digits_value 10 bytes)
    (10 ^ 18))
    (Some (digits_value 10 bytes)) None

-- the same in at most 9 digits
abbrev pub short_decimal_of : List ℕ → Option ℕ
short_decimal_of bytes =
    option_and_then (λ n. cond (nat_lt n (10 ^ 9)) (Some n) None) (decimal_of bytes)

-- what is behind the word, where the bytes begin with it
abbrev pub rest_behind : List ℕ → List ℕ → Option (List ℕ)
rest_behind [] bytes = Some bytes
rest_behind (w ∷ word) [] = None
rest_behind (w ∷ word) (b ∷ bytes) = cond (nat_eq w b) (rest_behind word bytes) None

-- the number behind the word
abbrev pub number_behind : List ℕ → List ℕ → Option ℕ
number_behind word bytes = option_and_then decimal_of (rest_behind word bytes)

-- the value, or what is wrong where there is none
abbrev pub or_refused : {A B : Type 0} → B → Option A → Result A B
or_refused bad None = Err bad
or_refused bad (Some a) = Ok a

-- The number, where it is at most so great. The form comes first: what is wrong is `bad` where
-- there is no number, and `many` where the number is greater.
abbrev pub at_most : {B : Type 0} → ℕ → B → B → Option ℕ → Result ℕ B
at_most most bad many None = Err bad
at_most most bad many (Some n) = cond (nat_le n most) (Ok n) (Err many)

-- a line that is this word
abbrev pub is_word : {B : Type 0} → List ℕ → B → List ℕ → Result (Unit {0}) B
is_word expected bad bytes = cond (bytes_eq bytes expected) (Ok tt) (Err bad)

abbrev pub word_line : {B : Type 0} → List ℕ → B → Parser B (Unit {0})
word_line expected bad = line bad (is_word expected bad)

-- a line that is a decimal
abbrev pub number_in : {B : Type 0} → B → List ℕ → Result ℕ B
number_in bad bytes = or_refused bad (decimal_of bytes)

abbrev pub number_line : {B : Type 0} → B → Parser B ℕ
number_line bad = line bad (number_in bad)

-- a line that is a decimal behind a header, as `cost:7`, of at most so great a number
abbrev pub numbered_in : {B : Type 0} → List ℕ → ℕ → B → B → List ℕ → Result ℕ B
numbered_in header most bad many bytes = at_most most bad many (number_behind header bytes)

abbrev pub numbered_line : {B : Type 0} → List ℕ → ℕ → B → B → Parser B ℕ
numbered_line header most bad many = line bad (numbered_in header most bad many)
