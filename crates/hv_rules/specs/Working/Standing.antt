-- What a rule may be asked of.
use Rattle.std.specs.Prelude.{ℕ, List}
use Rattle.hv_task.specs.State.{AreBelow}
use Rattle.hv_lines.specs.Numbering.{SpeaksBelow, acts_count, expr_count, known_count}
use Rattle.hv_lines.specs.declared.line.Line.{Line}
use Rattle.hv_lines.specs.declared.line.Statement.{Statement}

-- the statement speaks of sets among these lines, and the premises are among them
pub record StandsIn (lines : List Line) (statement : Statement) (premises : List ℕ)
    : Type 0 where
  pub statement_there : SpeaksBelow (acts_count lines) (expr_count lines) statement
  pub premises_there : AreBelow (known_count lines) premises
