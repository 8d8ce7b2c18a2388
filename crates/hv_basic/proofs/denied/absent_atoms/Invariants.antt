use Rattle.std.proofs.Common.{◌≡◌, length}
use Rattle.hv_task.specs.Strips.{atoms}
use Rattle.hv_lines.specs.Queries.{has_of}
use Rattle.hv_basic.specs.Cases.{lines_in, setting_in}
use Rattle.hv_basic.specs.Working.Denied.{AreAbsent}
use Rattle.hv_basic.proofs.denied.absent_atoms.Given as goal

abbrev pub invariant-loop-operand : goal.invariant-loop-operand
invariant-loop-operand l = record {
  size : length l.flags.items ≡ atoms l.case.task.now;
  absent : AreAbsent l.case.task.now (has_of (setting_in l.case) (lines_in l.case) l.family)
      l.positive l.flags.items;
}
