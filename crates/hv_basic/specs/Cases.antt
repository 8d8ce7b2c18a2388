-- What statements are decided on.
use Rattle.std.specs.Prelude.{List}
use Rattle.hv_lines.specs.Setting.{Setting, setting_of}
use Rattle.hv_lines.specs.declared.line.Line.{Line}
use Rattle.hv_basic.specs.declared.case.Case.{Case}

-- what is judged by
abbrev pub setting_in : Case → Setting
setting_in case = setting_of case.task.now case.diagrams.now case.budget

-- the lines, of which the newest is the first
abbrev pub lines_in : Case → List Line
lines_in case = case.table.now.lines
