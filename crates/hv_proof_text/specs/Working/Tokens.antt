-- The tokens of a line: each of its fields denotes one.
use Rattle.std.specs.Prelude.{◌≡◌, ◌<◌, ◌+◌, ◌^◌, ℕ, List, [], ◌∷◌, ◌++◌, cond, length, map, codes}
use Rattle.std.specs.Prelude.{decimal}
use Rattle.std.specs.List.{All, flat_map}
use Rattle.hv_sets.specs.declared.literal.Literal.{Literal}
use Rattle.hv_lines.specs.Spelling.{IsSpelled, IsRising, FitsLiteral, word_field}
use Rattle.hv_lines.specs.declared.line.Acts.{Acts}
use Rattle.hv_lines.specs.declared.line.Acts.TheVariants as A
use Rattle.hv_lines.specs.declared.line.Constant.{Constant}
use Rattle.hv_lines.specs.declared.line.Constant.TheVariants as C
use Rattle.hv_lines.specs.declared.line.Expr.{Expr}
use Rattle.hv_lines.specs.declared.line.Expr.TheVariants as E
use Rattle.hv_lines.specs.declared.line.Line.{Line}
use Rattle.hv_lines.specs.declared.line.Line.TheVariants as N
use Rattle.hv_lines.specs.declared.line.Statement.{Statement}
use Rattle.hv_lines.specs.declared.line.Statement.TheVariants as S
use Rattle.hv_proof_text.specs.declared.token.Letter.{Letter}
use Rattle.hv_proof_text.specs.declared.token.Letter.TheVariants as L
use Rattle.hv_proof_text.specs.declared.token.Token.{Token}
use Rattle.hv_proof_text.specs.declared.token.Token.TheVariants as T

-- the field that is this letter
abbrev pub letter_field : Letter → List ℕ
letter_field L.A = codes "a"
letter_field L.B = codes "b"
letter_field L.C = codes "c"
letter_field L.D = codes "d"
letter_field L.E = codes "e"
letter_field L.G = codes "g"
letter_field L.H = codes "h"
letter_field L.I = codes "i"
letter_field L.K = codes "k"
letter_field L.N = codes "n"
letter_field L.P = codes "p"
letter_field L.R = codes "r"
letter_field L.S = codes "s"
letter_field L.T = codes "t"
letter_field L.U = codes "u"
letter_field L.X = codes "x"

-- the field of a token
abbrev pub field_of : Token → List ℕ
field_of (T.Letter letter) = letter_field letter
field_of (T.Word word) = word_field word
field_of (T.Number n) = decimal n
field_of (T.Minus n) = 45 ∷ decimal n
field_of T.End = codes ";"

-- the number in a token has at most 18 digits
abbrev pub IsToken : Token → Type 0
IsToken (T.Letter letter) = Unit {0}
IsToken (T.Word word) = Unit {0}
IsToken (T.Number n) = n < 10 ^ 18
IsToken (T.Minus n) = n < 10 ^ 18
IsToken T.End = Unit {0}

-- the token is a letter or a word
abbrev pub IsNameToken : Token → Type 0
IsNameToken (T.Letter letter) = Unit {0}
IsNameToken (T.Word word) = Unit {0}
IsNameToken _ = ⊥

-- each of the fields denotes one of the tokens, in order
pub record AreTokens (tokens : List Token) (fields : List (List ℕ)) : Type 0 where
  pub each : All IsToken tokens
  pub same : map field_of tokens ≡ fields

-- the token of a number
abbrev pub number : ℕ → Token
number n = T.Number n

-- the token of a letter
abbrev pub letter : Letter → Token
letter l = T.Letter l

-- the tokens of an action set, behind the identifier of its line
abbrev pub acts_tokens : Acts → List Token
acts_tokens A.All = letter L.A ∷ []
acts_tokens (A.List actions) = letter L.B ∷ number (length actions) ∷ map number actions
acts_tokens (A.Both left right) = letter L.U ∷ number left ∷ number right ∷ []

-- the letter of a constant
abbrev pub constant_letter : Constant → Letter
constant_letter C.Empty = L.E
constant_letter C.Start = L.I
constant_letter C.Goal = L.G

-- the token of a literal: the number of its atom plus 1, with a minus where it is negative
abbrev pub literal_token : Literal → Token
literal_token literal = cond literal.positive (T.Number (literal.atom + 1))
    (T.Minus (literal.atom + 1))

-- the tokens of a clause: those of its literals, and 0
abbrev pub clause_tokens : List Literal → List Token
clause_tokens clause = map literal_token clause ++ number 0 ∷ []

-- the tokens of a listed state: those of its atoms, and the mark of its end
abbrev pub state_tokens : List ℕ → List Token
state_tokens state = map number state ++ T.End ∷ []

-- the tokens of an expression, behind the identifier of its line
abbrev pub expr_tokens : Expr → List Token
expr_tokens (E.Constant constant) = letter L.C ∷ letter (constant_letter constant) ∷ []
expr_tokens (E.Horn clauses) = letter L.H ∷ number (length clauses) ∷ flat_map clause_tokens clauses
expr_tokens (E.Dual clauses) = letter L.D ∷ number (length clauses) ∷ flat_map clause_tokens clauses
expr_tokens (E.Two clauses) = letter L.T ∷ number (length clauses) ∷ flat_map clause_tokens clauses
expr_tokens (E.States states) = letter L.X ∷ number (length states) ∷ flat_map state_tokens states
expr_tokens (E.Node node) = letter L.B ∷ number node ∷ []
expr_tokens (E.Not set) = letter L.N ∷ number set ∷ []
expr_tokens (E.And left right) = letter L.I ∷ number left ∷ number right ∷ []
expr_tokens (E.Or left right) = letter L.U ∷ number left ∷ number right ∷ []
expr_tokens (E.After set acts) = letter L.P ∷ number set ∷ number acts ∷ []
expr_tokens (E.Before set acts) = letter L.R ∷ number set ∷ number acts ∷ []

-- the tokens of a statement, between the identifier of its line and the word
abbrev pub statement_tokens : Statement → List Token
statement_tokens (S.Sub left right) = letter L.S ∷ number left ∷ number right ∷ []
statement_tokens (S.ActSub left right) = letter L.A ∷ number left ∷ number right ∷ []
statement_tokens (S.Dead set) = letter L.D ∷ number set ∷ []
statement_tokens S.Unsolvable = letter L.U ∷ []

-- the tokens of a line: their fields are the fields of its spelling
abbrev pub tokens_of : Line → List Token
tokens_of (N.Acts id acts) = letter L.A ∷ number id ∷ acts_tokens acts
tokens_of (N.Expr id expr) = letter L.E ∷ number id ∷ expr_tokens expr
tokens_of (N.Known id statement word premises) =
    letter L.K ∷ number id ∷ (statement_tokens statement ++ T.Word word ∷ map number premises)

-- the tokens are those of this line, which has a spelling
pub record SpellsTokens (line : Line) (tokens : List Token) : Type 0 where
  pub spelled : IsSpelled line
  pub same : tokens_of line ≡ tokens

-- the tokens are short decimals that rise
pub record AreRisingNumbers (numbers : List ℕ) (tokens : List Token) : Type 0 where
  pub rising : IsRising numbers
  pub same : map number numbers ≡ tokens

-- the tokens are the clauses, one after another
pub record AreClauseTokens (clauses : List (List Literal)) (tokens : List Token) : Type 0 where
  pub short : All (All FitsLiteral) clauses
  pub same : flat_map clause_tokens clauses ≡ tokens

-- the tokens are the states, one after another
pub record AreStateTokens (states : List (List ℕ)) (tokens : List Token) : Type 0 where
  pub rising : All IsRising states
  pub same : flat_map state_tokens states ≡ tokens
