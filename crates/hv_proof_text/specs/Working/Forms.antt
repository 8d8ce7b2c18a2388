-- What may be behind a letter: the forms of lines, letter by letter.
use Rattle.std.specs.Prelude.{◌≡◌, ℕ, List, [], ◌∷◌, ◌++◌, Some, length, map}
use Rattle.std.specs.List.{All}
use Rattle.hv_sets.specs.declared.literal.Literal.{Literal}
use Rattle.hv_lines.specs.Spelling.{FitsShortDecimal, premises_of}
use Rattle.hv_lines.specs.declared.line.Acts.{Acts}
use Rattle.hv_lines.specs.declared.line.Acts.TheVariants as A
use Rattle.hv_lines.specs.declared.line.Constant.{Constant}
use Rattle.hv_lines.specs.declared.line.Expr.{Expr}
use Rattle.hv_lines.specs.declared.line.Expr.TheVariants as E
use Rattle.hv_lines.specs.declared.line.Line.{Line}
use Rattle.hv_lines.specs.declared.line.Line.TheVariants as N
use Rattle.hv_lines.specs.declared.line.Statement.{Statement}
use Rattle.hv_lines.specs.declared.line.Statement.TheVariants as S
use Rattle.hv_lines.specs.declared.line.Word.{Word}
use Rattle.hv_proof_text.specs.declared.token.Letter.{Letter}
use Rattle.hv_proof_text.specs.declared.token.Letter.TheVariants as L
use Rattle.hv_proof_text.specs.declared.token.Token.{Token}
use Rattle.hv_proof_text.specs.declared.token.Token.TheVariants as T
use Rattle.hv_proof_text.specs.Working.Tokens.{AreRisingNumbers, AreClauseTokens, AreStateTokens}
use Rattle.hv_proof_text.specs.Working.Tokens.{IsToken, constant_letter, field_of, letter, number}

-- behind `a ID` and this letter
abbrev pub ActsForm : Letter → List Token → Acts → Type 0
ActsForm L.A tokens acts = (tokens ≡ []) × (acts ≡ A.All)
ActsForm L.B tokens acts =
    (actions : List ℕ) × (items : List Token) × (tokens ≡ number (length actions) ∷ items)
    × AreRisingNumbers actions items
    × (acts ≡ A.List actions)
ActsForm L.U tokens acts = (left : ℕ) × (right : ℕ) × (tokens ≡ number left ∷ number right ∷ [])
    × (acts ≡ A.Both left right)
ActsForm _ tokens acts = ⊥

-- behind `e ID` and this letter
abbrev pub ExprForm : Letter → List Token → Expr → Type 0
ExprForm L.C tokens expr = (constant : Constant) × (tokens ≡ letter (constant_letter constant) ∷ [])
    × (expr ≡ E.Constant constant)
ExprForm L.H tokens expr =
    (clauses : List (List Literal)) × (items : List Token)
    × (tokens ≡ number (length clauses) ∷ items) × AreClauseTokens clauses items
    × (expr ≡ E.Horn clauses)
ExprForm L.D tokens expr =
    (clauses : List (List Literal)) × (items : List Token)
    × (tokens ≡ number (length clauses) ∷ items) × AreClauseTokens clauses items
    × (expr ≡ E.Dual clauses)
ExprForm L.T tokens expr =
    (clauses : List (List Literal)) × (items : List Token)
    × (tokens ≡ number (length clauses) ∷ items) × AreClauseTokens clauses items
    × (expr ≡ E.Two clauses)
ExprForm L.X tokens expr =
    (states : List (List ℕ)) × (items : List Token) × (tokens ≡ number (length states) ∷ items)
    × AreStateTokens states items
    × (expr ≡ E.States states)
ExprForm L.B tokens expr = (node : ℕ) × (tokens ≡ number node ∷ []) × FitsShortDecimal node
    × (expr ≡ E.Node node)
ExprForm L.N tokens expr = (set : ℕ) × (tokens ≡ number set ∷ []) × (expr ≡ E.Not set)
ExprForm L.I tokens expr = (left : ℕ) × (right : ℕ) × (tokens ≡ number left ∷ number right ∷ [])
    × (expr ≡ E.And left right)
ExprForm L.U tokens expr = (left : ℕ) × (right : ℕ) × (tokens ≡ number left ∷ number right ∷ [])
    × (expr ≡ E.Or left right)
ExprForm L.P tokens expr = (set : ℕ) × (acts : ℕ) × (tokens ≡ number set ∷ number acts ∷ [])
    × (expr ≡ E.After set acts)
ExprForm L.R tokens expr = (set : ℕ) × (acts : ℕ) × (tokens ≡ number set ∷ number acts ∷ [])
    × (expr ≡ E.Before set acts)
ExprForm _ tokens expr = ⊥

-- behind `k ID` and this letter: the statement, and what follows it
abbrev pub ClaimForm : Letter → List Token → Statement → List Token → Type 0
ClaimForm L.S tokens statement rest =
    (left : ℕ) × (right : ℕ) × (tokens ≡ number left ∷ number right ∷ rest)
    × (statement ≡ S.Sub left right)
ClaimForm L.A tokens statement rest =
    (left : ℕ) × (right : ℕ) × (tokens ≡ number left ∷ number right ∷ rest)
    × (statement ≡ S.ActSub left right)
ClaimForm L.D tokens statement rest = (set : ℕ) × (tokens ≡ number set ∷ rest)
    × (statement ≡ S.Dead set)
ClaimForm L.U tokens statement rest = (tokens ≡ rest) × (statement ≡ S.Unsolvable)
ClaimForm _ tokens statement rest = ⊥

-- behind `k ID` and this letter these fields are the statement and others: of all tokens, those of
-- the first fields are its form
abbrev pub ReadsClaim : Letter → List (List ℕ) → Statement → List (List ℕ) → Type 0
ReadsClaim kind fields statement later =
    (done : List Token) × All IsToken done × (map field_of done ++ later ≡ fields)
    × ((tokens : List Token) → ClaimForm kind (done ++ tokens) statement tokens)

-- behind a statement: a word that may be there, with as many premises as it has there
abbrev pub SupportForm : Statement → List Token → Word → List ℕ → Type 0
SupportForm statement tokens word premises =
    (tokens ≡ T.Word word ∷ map number premises)
    × (premises_of statement word ≡ Some (length premises))

-- a whole line, by its letter, its identifier and the letter behind it
abbrev pub LineForm : Letter → ℕ → Letter → List Token → Line → Type 0
LineForm L.A id kind tokens line = (acts : Acts) × ActsForm kind tokens acts
    × (line ≡ N.Acts id acts)
LineForm L.E id kind tokens line = (expr : Expr) × ExprForm kind tokens expr
    × (line ≡ N.Expr id expr)
LineForm L.K id kind tokens line =
    (statement : Statement) × (rest : List Token) × (word : Word) × (premises : List ℕ)
    × ClaimForm kind tokens statement rest
    × SupportForm statement rest word premises × (line ≡ N.Known id statement word premises)
LineForm _ id kind tokens line = ⊥
