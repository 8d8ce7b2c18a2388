-- The proof text: how a line is spelled. A line is its fields, parted by one space each.
use Rattle.std.specs.Prelude.{◌≡◌, ◌<◌, ◌+◌, ◌^◌, ◌⊎◌, ℕ, List, [], ◌∷◌, ◌++◌, Option, Some, None}
use Rattle.std.specs.Prelude.{cond, length, map, codes, decimal}
use Rattle.std.specs.List.{All, flat_map, join_with_byte}
use Rattle.std.specs.List.Sorted.{IsStrictlyIncreasing}
use Rattle.hv_sets.specs.declared.literal.Literal.{Literal}
use Rattle.hv_lines.specs.declared.line.Acts.{Acts}
use Rattle.hv_lines.specs.declared.line.Acts.TheVariants as A
use Rattle.hv_lines.specs.declared.line.Constant.{Constant}
use Rattle.hv_lines.specs.declared.line.Constant.TheVariants as C
use Rattle.hv_lines.specs.declared.line.Expr.{Expr}
use Rattle.hv_lines.specs.declared.line.Expr.TheVariants as E
use Rattle.hv_lines.specs.declared.line.Line.{Line}
use Rattle.hv_lines.specs.declared.line.Line.TheVariants as L
use Rattle.hv_lines.specs.declared.line.Statement.{Statement}
use Rattle.hv_lines.specs.declared.line.Statement.TheVariants as T
use Rattle.hv_lines.specs.declared.line.Word.{Word}
use Rattle.hv_lines.specs.Words.{is_kind, kind_of_statement, word_row}

-- an action set: all actions, the listed ones, or those of either of two
abbrev pub acts_fields : Acts → List (List ℕ)
acts_fields A.All = codes "a" ∷ []
acts_fields (A.List actions) = codes "b" ∷ decimal (length actions) ∷ map decimal actions
acts_fields (A.Both left right) = codes "u" ∷ decimal left ∷ decimal right ∷ []

-- a constant: the empty set, the initial state or the goal states
abbrev pub constant_field : Constant → List ℕ
constant_field C.Empty = codes "e"
constant_field C.Start = codes "i"
constant_field C.Goal = codes "g"

-- the number n denotes the atom n - 1; a dash before it negates it
abbrev pub literal_field : Literal → List ℕ
literal_field literal =
    cond literal.positive (decimal (literal.atom + 1)) (45 ∷ decimal (literal.atom + 1))

-- a clause ends with the field 0
abbrev pub clause_fields : List Literal → List (List ℕ)
clause_fields clause = map literal_field clause ++ codes "0" ∷ []

-- a state ends with the field ;
abbrev pub state_fields : List ℕ → List (List ℕ)
state_fields state = map decimal state ++ codes ";" ∷ []

-- a set of states: a constant, a formula, or one made of earlier sets
abbrev pub expr_fields : Expr → List (List ℕ)
expr_fields (E.Constant constant) = codes "c" ∷ constant_field constant ∷ []
expr_fields (E.Horn clauses) = codes "h" ∷ decimal (length clauses) ∷ flat_map clause_fields clauses
expr_fields (E.Dual clauses) = codes "d" ∷ decimal (length clauses) ∷ flat_map clause_fields clauses
expr_fields (E.Two clauses) = codes "t" ∷ decimal (length clauses) ∷ flat_map clause_fields clauses
expr_fields (E.States states) = codes "x" ∷ decimal (length states) ∷ flat_map state_fields states
expr_fields (E.Node node) = codes "b" ∷ decimal node ∷ []
expr_fields (E.Not set) = codes "n" ∷ decimal set ∷ []
expr_fields (E.And left right) = codes "i" ∷ decimal left ∷ decimal right ∷ []
expr_fields (E.Or left right) = codes "u" ∷ decimal left ∷ decimal right ∷ []
expr_fields (E.After set acts) = codes "p" ∷ decimal set ∷ decimal acts ∷ []
expr_fields (E.Before set acts) = codes "r" ∷ decimal set ∷ decimal acts ∷ []

-- a statement: a set within another, an action set within another, a dead set, or that there is no
-- plan
abbrev pub statement_fields : Statement → List (List ℕ)
statement_fields (T.Sub left right) = codes "s" ∷ decimal left ∷ decimal right ∷ []
statement_fields (T.ActSub left right) = codes "a" ∷ decimal left ∷ decimal right ∷ []
statement_fields (T.Dead set) = codes "d" ∷ decimal set ∷ []
statement_fields T.Unsolvable = codes "u" ∷ []

-- a word: its two letters, or b and its digit
abbrev pub word_field : Word → List ℕ
word_field word = (word_row word).spelling

-- the fields of a line: its letter, its identifier, and what it says
abbrev pub fields_of : Line → List (List ℕ)
fields_of (L.Acts id acts) = codes "a" ∷ decimal id ∷ acts_fields acts
fields_of (L.Expr id expr) = codes "e" ∷ decimal id ∷ expr_fields expr
fields_of (L.Known id statement word premises) =
    codes "k" ∷ decimal id ∷ (statement_fields statement ++ word_field word ∷ map decimal premises)

-- the spelling of a line, without its LF
abbrev pub spelling_of : Line → List ℕ
spelling_of line = join_with_byte 32 (fields_of line)

-- the text of a proof: the spelling of each line, with its LF
abbrev pub proof_text : List Line → List ℕ
proof_text lines = flat_map (λ line. spelling_of line ++ 10 ∷ []) lines

-- a number that a decimal can spell: it has at most 18 digits
abbrev pub FitsDecimal : ℕ → Type 0
FitsDecimal n = n < 10 ^ 18

-- a number that a short decimal can spell: it has at most 9 digits
abbrev pub FitsShortDecimal : ℕ → Type 0
FitsShortDecimal n = n < 10 ^ 9

-- a literal whose number is a short decimal
abbrev pub FitsLiteral : Literal → Type 0
FitsLiteral literal = literal.atom + 1 < 10 ^ 9

-- short decimals that strictly rise
pub record IsRising (numbers : List ℕ) : Type 0 where
  pub short : All FitsShortDecimal numbers
  pub rising : IsStrictlyIncreasing numbers

-- the numbers of the action set have a spelling
abbrev pub ActsFit : Acts → Type 0
ActsFit A.All = Unit {0}
ActsFit (A.List actions) = FitsDecimal (length actions) × IsRising actions
ActsFit (A.Both left right) = FitsDecimal left × FitsDecimal right

-- the numbers of the set have a spelling
abbrev pub ExprFits : Expr → Type 0
ExprFits (E.Constant constant) = Unit {0}
ExprFits (E.Horn clauses) = FitsDecimal (length clauses) × All (All FitsLiteral) clauses
ExprFits (E.Dual clauses) = FitsDecimal (length clauses) × All (All FitsLiteral) clauses
ExprFits (E.Two clauses) = FitsDecimal (length clauses) × All (All FitsLiteral) clauses
ExprFits (E.States states) = FitsDecimal (length states) × All IsRising states
ExprFits (E.Node node) = FitsShortDecimal node
ExprFits (E.Not set) = FitsDecimal set
ExprFits (E.And left right) = FitsDecimal left × FitsDecimal right
ExprFits (E.Or left right) = FitsDecimal left × FitsDecimal right
ExprFits (E.After set acts) = FitsDecimal set × FitsDecimal acts
ExprFits (E.Before set acts) = FitsDecimal set × FitsDecimal acts

-- the numbers of the statement have a spelling
abbrev pub StatementFits : Statement → Type 0
StatementFits (T.Sub left right) = FitsDecimal left × FitsDecimal right
StatementFits (T.ActSub left right) = FitsDecimal left × FitsDecimal right
StatementFits (T.Dead set) = FitsDecimal set
StatementFits T.Unsolvable = Unit {0}

-- how many premises a word has after a statement, where it may be there
abbrev pub premises_of : Statement → Word → Option ℕ
premises_of statement word =
    cond (is_kind (word_row word).after (kind_of_statement statement))
    (Some (word_row word).premises) None

-- the line has a spelling: its numbers are short enough, lists rise where they must, and the word
-- may be there with as many premises
abbrev pub IsSpelled : Line → Type 0
IsSpelled (L.Acts id acts) = FitsDecimal id × ActsFit acts
IsSpelled (L.Expr id expr) = FitsDecimal id × ExprFits expr
IsSpelled (L.Known id statement word premises) =
    FitsDecimal id × StatementFits statement × All FitsDecimal premises
    × (premises_of statement word ≡ Some (length premises))

-- the bytes are the spelling of this line
pub record Spells (line : Line) (bytes : List ℕ) : Type 0 where
  pub spelled : IsSpelled line
  pub same : spelling_of line ≡ bytes

-- the first byte of a comment line
abbrev pub BeginsComment : List ℕ → Type 0
BeginsComment [] = ⊥
BeginsComment (byte ∷ bytes) = byte ≡ 35

-- an empty line or a comment, which is skipped
abbrev pub IsSkipped : List ℕ → Type 0
IsSkipped bytes = (bytes ≡ []) ⊎ BeginsComment bytes
