use Rattle.std.proofs.Common.{◌≡◌, reverse, take}
use Rattle.hv_explain.specs.Explained.{explained_lines}
use Rattle.hv_explain.specs.Working.Marks.{is_line_marked}
use Rattle.hv_explain.proofs.explained.explained.Given as goal

abbrev pub invariant-loop-place : goal.invariant-loop-place
invariant-loop-place l = l.text ≡ explained_lines
    (λ id. is_line_marked l.marks id) (take l.place (reverse l.table.lines))
