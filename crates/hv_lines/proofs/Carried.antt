-- What is at an identifier of a table stays there when further lines are put.
use Rattle.std.proofs.Common.{◌≡◌, ℕ, List, [], ◌∷◌, Some, ◌∙◌}
use Rattle.hv_lines.specs.Drafts.{onto}
use Rattle.hv_lines.specs.Numbering.{IsTable, acts_at, expr_at, statement_at}
use Rattle.hv_lines.specs.declared.line.Acts.{Acts}
use Rattle.hv_lines.specs.declared.line.Expr.{Expr}
use Rattle.hv_lines.specs.declared.line.Line.{Line}
use Rattle.hv_lines.specs.declared.line.Statement.{Statement}
use Rattle.hv_lines.proofs.Laws.{acts_at_more, acts_below, expr_at_more, expr_below, known_below}
use Rattle.hv_lines.proofs.Laws.{statement_at_more}

-- the lines before the further ones are a table
pub table_before : (more lines : List Line) → IsTable (onto more lines) → IsTable lines
table_before [] lines table = table
table_before (line ∷ more) lines table = (table_before more (line ∷ lines) table).1

pub acts_onto : (more lines : List Line) (id : ℕ) (acts : Acts) → IsTable (onto more lines)
    → acts_at lines id ≡ Some acts
    → acts_at (onto more lines) id ≡ Some acts
acts_onto [] lines id acts table at = at
acts_onto (line ∷ more) lines id acts table at =
    let before = table_before more (line ∷ lines) table in
    acts_onto more (line ∷ lines) id acts table
    (acts_at_more line lines id before.0 (acts_below lines id acts before.1 at) ∙ at)

pub expr_onto : (more lines : List Line) (id : ℕ) (expr : Expr) → IsTable (onto more lines)
    → expr_at lines id ≡ Some expr
    → expr_at (onto more lines) id ≡ Some expr
expr_onto [] lines id expr table at = at
expr_onto (line ∷ more) lines id expr table at =
    let before = table_before more (line ∷ lines) table in
    expr_onto more (line ∷ lines) id expr table
    (expr_at_more line lines id before.0 (expr_below lines id expr before.1 at) ∙ at)

pub known_onto : (more lines : List Line) (id : ℕ) (statement : Statement)
    → IsTable (onto more lines)
    → statement_at lines id ≡ Some statement → statement_at (onto more lines) id ≡ Some statement
known_onto [] lines id statement table at = at
known_onto (line ∷ more) lines id statement table at =
    let before = table_before more (line ∷ lines) table in
    known_onto more (line ∷ lines) id statement table
    (statement_at_more line lines id before.0 (known_below lines id statement before.1 at) ∙ at)
