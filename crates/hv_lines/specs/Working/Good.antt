-- Working definitions beside those of `Good`: for private contracts and proofs.
use Rattle.std.specs.Prelude.{List}
use Rattle.hv_lines.specs.Spelling.{IsSpelled}
use Rattle.hv_lines.specs.Numbering.{IsNumbered}
use Rattle.hv_lines.specs.Order.{IsReasonBy}
use Rattle.hv_lines.specs.Setting.{Setting}
use Rattle.hv_lines.specs.declared.line.Line.{Line}
use Rattle.hv_lines.specs.declared.reason.Reason.{Reason}
use Rattle.hv_lines.specs.Good.{IsKnown, FamilyFits, LinePasses, IsRefutedBy}

-- the line passes the tests that look at its form and its numbers alone
pub record IsFormed (setting : Setting) (lines : List Line) (line : Line) : Type 0 where
  pub spelled : IsSpelled line
  pub numbered : IsNumbered lines line
  pub known : IsKnown setting.task setting.nodes lines line
  pub family : FamilyFits line

-- the reason why a line that has a spelling isn't good after these lines
abbrev pub IsReasonOf : Setting → List Line → Line → Reason → Type 0
IsReasonOf setting lines line reason =
    IsReasonBy (LinePasses setting lines line) (IsRefutedBy setting lines line) reason
