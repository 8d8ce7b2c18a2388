use Rattle.hv_explain.specs.Working.Marks.{AreMarkedFrom}
use Rattle.hv_explain.proofs.needed.needed.Given as goal

abbrev pub invariant-loop-id : goal.invariant-loop-id
invariant-loop-id l = AreMarkedFrom l.id l.table.lines l.marks.items
