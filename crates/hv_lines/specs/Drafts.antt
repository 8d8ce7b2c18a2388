-- Drafts: proofs that are written, line by line, so that each line is good after those before it.
use Rattle.std.specs.Prelude.{◌≤◌, ◌+◌, ◌^◌, ℕ, List, [], ◌∷◌, length}
use Rattle.std.specs.List.{All}
use Rattle.hv_task.specs.Strips.{Strips, atoms}
use Rattle.hv_bdd.specs.Nodes.{no_nodes}
use Rattle.hv_bytes.specs.Standard.{most_line_bytes}
use Rattle.hv_lines.specs.Good.{AreGood, IsGood}
use Rattle.hv_lines.specs.Setting.{Setting, setting_of}
use Rattle.hv_lines.specs.Spelling.{spelling_of}
use Rattle.hv_lines.specs.declared.line.Acts.TheVariants as A
use Rattle.hv_lines.specs.declared.line.Constant.TheVariants as C
use Rattle.hv_lines.specs.declared.line.Expr.TheVariants as E
use Rattle.hv_lines.specs.declared.line.Line.{Line}
use Rattle.hv_lines.specs.declared.line.Line.TheVariants as L
use Rattle.hv_lines.specs.declared.line.Statement.TheVariants as T
use Rattle.hv_lines.specs.declared.line.Word.TheVariants as W

-- the budget by which drafts are judged
abbrev pub default_budget : ℕ
default_budget = 1000000

-- what a draft for the task is judged by, with this budget in place of the default one: there is no
-- node file
abbrev pub with_budget : Strips → ℕ → Setting
with_budget task budget = setting_of task (no_nodes (atoms task)) budget

-- what a draft for the task is judged by
abbrev pub draft_setting : Strips → Setting
draft_setting task = with_budget task default_budget

-- no query of the lines costs more than so many clauses, since with that budget they are good too;
-- and no line is longer than 7,400,000 bytes
pub record IsModest (task : Strips) (clauses : ℕ) (lines : List Line) : Type 0 where
  pub cost : AreGood (with_budget task clauses) lines
  pub bytes : All (λ line. length (spelling_of line) ≤ 7400000) lines

-- the line isn't too long
abbrev pub IsShortLine : Line → Type 0
IsShortLine line = length (spelling_of line) ≤ most_line_bytes

-- the line may be put into a draft for the task, after these lines
pub record IsGoodNext (task : Strips) (lines : List Line) (line : Line) : Type 0 where
  pub good : IsGood (draft_setting task) lines line
  pub short : IsShortLine line

-- the lines, of which the newest is the first, are those of a good draft for the task
abbrev pub IsGoodTable : Strips → List Line → Type 0
IsGoodTable task [] = Unit {0}
IsGoodTable task (line ∷ older) = IsGoodNext task older line × IsGoodTable task older

-- the lines of a table after these further ones, which are given in the order in which they are put
abbrev pub onto : List Line → List Line → List Line
onto [] lines = lines
onto (line ∷ more) lines = onto more (line ∷ lines)

-- the identifier of a line
abbrev pub id_of : Line → ℕ
id_of (L.Acts id acts) = id
id_of (L.Expr id expr) = id
id_of (L.Known id statement word premises) = id

-- a draft, as contracts see it
pub record DraftState : Type 0 where
  -- all lines, the newest first
  pub lines : List Line
  -- how many further lines can be put without memory
  pub spare : ℕ

-- how many lines a draft has at most, the spare ones included: more than any memory holds, and few
-- enough for each identifier to be a decimal
abbrev pub most_lines : ℕ
most_lines = 2 ^ 59

-- The lines with which every draft begins: all actions, the three sets that every task has, and
-- that the empty set is dead.
abbrev pub prelude : List Line
prelude =
    L.Acts 0 A.All
    ∷ L.Expr 0 (E.Constant C.Empty)
    ∷ L.Expr 1 (E.Constant C.Start)
    ∷ L.Expr 2 (E.Constant C.Goal)
    ∷ L.Known 0 (T.Dead 0) W.Ed []
    ∷ []

-- The three lines with which a proof ends, where line `by` says that a set is dead which holds the
-- initial state: so the set of the initial state is dead, and there is no plan. The first of them
-- is line k.
abbrev pub conclusion : ℕ → ℕ → ℕ → List Line
conclusion k dead by =
    L.Known k (T.Sub 1 dead) W.B1 []
    ∷ L.Known (k + 1) (T.Dead 1) W.Sd (k ∷ by ∷ [])
    ∷ L.Known (k + 2) T.Unsolvable W.Ci ((k + 1) ∷ [])
    ∷ []
