-- Formats of lines. A format is a parser, built of smaller ones, and reads as the table of the
-- format.
use Rattle.std.specs.Prelude.{ℕ, zero, suc, ◌+◌, List, [], ◌∷◌, ◌++◌, Option, None, Some, Result}
use Rattle.std.specs.Prelude.{Ok, Err}
use Rattle.hv_bytes.specs.Pieces.{PieceBytes}

-- What comes of the pieces of a file from some place on: a value, behind so many lines of the file
-- and before these pieces; or the line of this number is refused, in this way; or it is long.
pub data Outcome (B A : Type 0) : Type 0 where
  parsed : A → ℕ → List PieceBytes → Outcome B A
  refused : ℕ → B → Outcome B A
  long : ℕ → Outcome B A

-- a part of a format: what comes of it behind so many lines of the file and before these pieces
abbrev pub Parser : Type 0 → Type 0 → Type 0
Parser B A = ℕ → List PieceBytes → Outcome B A

-- Sequence.

-- what follows a part, after what came of the part
abbrev pub after : {A B C : Type 0} → Outcome B A → (A → Parser B C) → Outcome B C
after (parsed a n ps) rest = rest a n ps
after (refused n b) rest = refused n b
after (long n) rest = long n

-- a part, and what follows it, which may hang on the value of the part: so one line of lookahead,
-- that of the part, may say what follows
infixr 20 ◌>>=◌
abbrev pub ◌>>=◌ : {A B C : Type 0} → Parser B A → (A → Parser B C) → Parser B C
◌>>=◌ part rest n ps = after (part n ps) rest

-- the same where what follows doesn't hang on a value
infixr 20 ◌>>◌
abbrev pub ◌>>◌ : {B C : Type 0} → Parser B (Unit {0}) → Parser B C → Parser B C
part >> rest = part >>= λ _. rest

-- no line: the value is known already
abbrev pub pure : {A B : Type 0} → A → Parser B A
pure a n ps = parsed a n ps

-- One line.

-- what comes of a line, by what the test says of it
abbrev pub tested : {A B : Type 0} → ℕ → List PieceBytes → Result A B → Outcome B A
tested n ps (Ok a) = parsed a n ps
tested n ps (Err b) = refused n b

-- what follows a line, by what the test says of it
abbrev pub followed : {A B C : Type 0} → ℕ → (A → Outcome B C) → Result A B → Outcome B C
followed n rest (Ok a) = rest a
followed n rest (Err b) = refused n b

-- one line, which the test takes with its value, or refuses; `lacking` where no line is left
abbrev pub line : {A B : Type 0} → B → (List ℕ → Result A B) → Parser B A
line lacking test n [] = refused (n + 1) lacking
line lacking test n (None ∷ ps) = long (n + 1)
line lacking test n (Some l ∷ ps) = tested (n + 1) ps (test l)

-- a line that may be there, where else the input ends
abbrev pub optional : {A B : Type 0} → (List ℕ → Result A B) → Parser B (Option A)
optional test n [] = parsed None n []
optional test n (None ∷ ps) = long (n + 1)
optional test n (Some l ∷ ps) = followed (n + 1) (λ a. parsed (Some a) (n + 1) ps) (test l)

-- no line: what is said of a value, at the line that was read last
abbrev pub check : {A B C : Type 0} → (A → Result C B) → A → Parser B C
check test a n ps = tested n ps (test a)

-- Repetition.

-- the same part so many times, each time after what the earlier ones made
abbrev pub iterate : {A B : Type 0} → ℕ → (A → Parser B A) → A → Parser B A
iterate zero part a = pure a
iterate (suc k) part a = part a >>= λ b. iterate k part b

-- one more value of the same part, behind the earlier ones
abbrev pub one_more : {A B : Type 0} → Parser B A → List A → Parser B (List A)
one_more part earlier = part >>= λ a. pure (earlier ++ a ∷ [])

-- the same part so many times: the list of its values
abbrev pub repeat : {A B : Type 0} → ℕ → Parser B A → Parser B (List A)
repeat k part = iterate k (one_more part) []

-- the value is done, or one more line follows
abbrev pub done_or : {A B : Type 0} → A → ℕ → List PieceBytes → (A → Outcome B A) → Option A
    → Outcome B A
done_or a n ps rest None = parsed a n ps
done_or a n ps rest (Some b) = rest b

-- lines up to a closing one: the test says what a line makes of the value so far, or that it closes
abbrev pub many_till : {A B : Type 0} → B → (A → List ℕ → Result (Option A) B) → A → Parser B A
many_till lacking test a n [] = refused (n + 1) lacking
many_till lacking test a n (None ∷ ps) = long (n + 1)
many_till lacking test a n (Some l ∷ ps) =
    followed (n + 1) (done_or a (n + 1) ps (λ b. many_till lacking test b (n + 1) ps)) (test a l)

-- what follows one of these lines
abbrev pub till : {A B : Type 0} → B → (A → List ℕ → Result (Option A) B) → A → Option A
    → Parser B A
till lacking test a None = pure a
till lacking test a (Some b) = many_till lacking test b

-- all lines up to the end of the input: the test says what a line makes of the value so far, which
-- a skipped line leaves as it is
abbrev pub many : {A B : Type 0} → (A → List ℕ → Result A B) → A → Parser B A
many test a n [] = parsed a n []
many test a n (None ∷ ps) = long (n + 1)
many test a n (Some l ∷ ps) = followed (n + 1) (λ b. many test b (n + 1) ps) (test a l)

-- what follows one of these lines, or the end
abbrev pub onward : {A B : Type 0} → (A → List ℕ → Result A B) → A → Option A → Parser B A
onward test a None = pure a
onward test a (Some b) = many test b

-- The end of the input.

-- nothing is here
abbrev pub end_of_input : {B : Type 0} → B → Parser B (Unit {0})
end_of_input extra n [] = parsed tt n []
end_of_input extra n (None ∷ ps) = long (n + 1)
end_of_input extra n (Some l ∷ ps) = refused (n + 1) extra
