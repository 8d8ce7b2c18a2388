-- Lines by their identifiers. A list of lines has the newest line first.
use Rattle.std.specs.Prelude.{◌≡◌, ◌<◌, ℕ, suc, List, [], ◌∷◌, Option, Some, None, cond, nat_eq}
use Rattle.hv_task.specs.State.{AreBelow}
use Rattle.hv_lines.specs.declared.line.Acts.{Acts}
use Rattle.hv_lines.specs.declared.line.Acts.TheVariants as A
use Rattle.hv_lines.specs.declared.line.Expr.{Expr}
use Rattle.hv_lines.specs.declared.line.Expr.TheVariants as E
use Rattle.hv_lines.specs.declared.line.Line.{Line}
use Rattle.hv_lines.specs.declared.line.Line.TheVariants as L
use Rattle.hv_lines.specs.declared.line.Statement.{Statement}
use Rattle.hv_lines.specs.declared.line.Statement.TheVariants as T
use Rattle.hv_lines.specs.declared.line.Word.{Word}

-- how many lines begin with `a`
abbrev pub acts_count : List Line → ℕ
acts_count [] = 0
acts_count (L.Acts id acts ∷ older) = suc (acts_count older)
acts_count (L.Expr id expr ∷ older) = acts_count older
acts_count (L.Known id statement word premises ∷ older) = acts_count older

-- how many lines begin with `e`
abbrev pub expr_count : List Line → ℕ
expr_count [] = 0
expr_count (L.Acts id acts ∷ older) = expr_count older
expr_count (L.Expr id expr ∷ older) = suc (expr_count older)
expr_count (L.Known id statement word premises ∷ older) = expr_count older

-- how many lines begin with `k`
abbrev pub known_count : List Line → ℕ
known_count [] = 0
known_count (L.Acts id acts ∷ older) = known_count older
known_count (L.Expr id expr ∷ older) = known_count older
known_count (L.Known id statement word premises ∷ older) = suc (known_count older)

-- what the `a` line with this identifier says
abbrev pub acts_at : List Line → ℕ → Option Acts
acts_at [] wanted = None
acts_at (L.Acts id acts ∷ older) wanted = cond (nat_eq wanted id) (Some acts) (acts_at older wanted)
acts_at (L.Expr id expr ∷ older) wanted = acts_at older wanted
acts_at (L.Known id statement word premises ∷ older) wanted = acts_at older wanted

-- what the `e` line with this identifier says
abbrev pub expr_at : List Line → ℕ → Option Expr
expr_at [] wanted = None
expr_at (L.Acts id acts ∷ older) wanted = expr_at older wanted
expr_at (L.Expr id expr ∷ older) wanted = cond (nat_eq wanted id) (Some expr) (expr_at older wanted)
expr_at (L.Known id statement word premises ∷ older) wanted = expr_at older wanted

-- what the `k` line with this identifier claims
abbrev pub statement_at : List Line → ℕ → Option Statement
statement_at [] wanted = None
statement_at (L.Acts id acts ∷ older) wanted = statement_at older wanted
statement_at (L.Expr id expr ∷ older) wanted = statement_at older wanted
statement_at (L.Known id statement word premises ∷ older) wanted =
    cond (nat_eq wanted id) (Some statement) (statement_at older wanted)

-- the word by which the `k` line with this identifier is justified
abbrev pub word_at : List Line → ℕ → Option Word
word_at [] wanted = None
word_at (L.Acts id acts ∷ older) wanted = word_at older wanted
word_at (L.Expr id expr ∷ older) wanted = word_at older wanted
word_at (L.Known id statement word premises ∷ older) wanted =
    cond (nat_eq wanted id) (Some word) (word_at older wanted)

-- the premises of the `k` line with this identifier
abbrev pub premises_at : List Line → ℕ → Option (List ℕ)
premises_at [] wanted = None
premises_at (L.Acts id acts ∷ older) wanted = premises_at older wanted
premises_at (L.Expr id expr ∷ older) wanted = premises_at older wanted
premises_at (L.Known id statement word premises ∷ older) wanted =
    cond (nat_eq wanted id) (Some premises) (premises_at older wanted)

-- an action set refers to earlier ones alone, of which there are so many
abbrev pub ActsReferBelow : ℕ → Acts → Type 0
ActsReferBelow acts A.All = Unit {0}
ActsReferBelow acts (A.List actions) = Unit {0}
ActsReferBelow acts (A.Both left right) = (left < acts) × (right < acts)

-- a set refers to earlier action sets and sets alone, of which there are so many
abbrev pub ExprRefersBelow : ℕ → ℕ → Expr → Type 0
ExprRefersBelow acts exprs (E.Constant constant) = Unit {0}
ExprRefersBelow acts exprs (E.Horn clauses) = Unit {0}
ExprRefersBelow acts exprs (E.Dual clauses) = Unit {0}
ExprRefersBelow acts exprs (E.Two clauses) = Unit {0}
ExprRefersBelow acts exprs (E.States states) = Unit {0}
ExprRefersBelow acts exprs (E.Node node) = Unit {0}
ExprRefersBelow acts exprs (E.Not set) = set < exprs
ExprRefersBelow acts exprs (E.And left right) = (left < exprs) × (right < exprs)
ExprRefersBelow acts exprs (E.Or left right) = (left < exprs) × (right < exprs)
ExprRefersBelow acts exprs (E.After set by) = (set < exprs) × (by < acts)
ExprRefersBelow acts exprs (E.Before set by) = (set < exprs) × (by < acts)

-- a statement speaks of earlier action sets and sets alone, of which there are so many
abbrev pub SpeaksBelow : ℕ → ℕ → Statement → Type 0
SpeaksBelow acts exprs (T.Sub left right) = (left < exprs) × (right < exprs)
SpeaksBelow acts exprs (T.ActSub left right) = (left < acts) × (right < acts)
SpeaksBelow acts exprs (T.Dead set) = set < exprs
SpeaksBelow acts exprs T.Unsolvable = Unit {0}

-- the line's identifier is the number of earlier lines of its letter
abbrev pub IsNumbered : List Line → Line → Type 0
IsNumbered older (L.Acts id acts) = id ≡ acts_count older
IsNumbered older (L.Expr id expr) = id ≡ expr_count older
IsNumbered older (L.Known id statement word premises) = id ≡ known_count older

-- each identifier that the line refers to is that of an earlier line of its letter
abbrev pub RefersBack : List Line → Line → Type 0
RefersBack older (L.Acts id acts) = ActsReferBelow (acts_count older) acts
RefersBack older (L.Expr id expr) = ExprRefersBelow (acts_count older) (expr_count older) expr
RefersBack older (L.Known id statement word premises) =
    SpeaksBelow (acts_count older) (expr_count older) statement
    × AreBelow (known_count older) premises

-- the line may be after these
pub record MayFollow (older : List Line) (line : Line) : Type 0 where
  pub numbered : IsNumbered older line
  pub back : RefersBack older line

-- each line may be after those before it
abbrev pub IsTable : List Line → Type 0
IsTable [] = Unit {0}
IsTable (line ∷ older) = MayFollow older line × IsTable older
