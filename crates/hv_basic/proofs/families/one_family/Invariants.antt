use Rattle.std.proofs.Common.{List}
use Rattle.hv_lines.specs.declared.line.Line.{Line}
use Rattle.hv_basic.specs.Working.Gathered.{HaveTheirFamilies}
use Rattle.hv_basic.proofs.OneFamily.{IsFamilyTo}
use Rattle.hv_basic.proofs.families.one_family.Given as goal

abbrev pub invariant-loop-asking : goal.invariant-loop-asking
invariant-loop-asking l = (lines : List Line) → HaveTheirFamilies lines l.askings
    → IsFamilyTo lines l.askings l.fn.before l.asking-index l.family
