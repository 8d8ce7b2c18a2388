-- A table of lines, as contracts see it.
use Rattle.std.specs.Prelude.{ℕ, List}
use Rattle.hv_lines.specs.declared.line.Line.{Line}

-- the lines of a table, and the memory that it has taken for more
pub record TableState : Type 0 where
  -- all lines, the newest first
  pub lines : List Line
  -- how many further lines can be pushed without memory
  pub room : ℕ
