use Rattle.std.proofs.Common.{◌≡◌, true, take}
use Rattle.hv_clauses.proofs.OperandRounds.{AreDenied, left_after}
use Rattle.hv_clauses.specs.Working.Posed.{formulas}
use Rattle.hv_propagation.specs.Trail.{Grows, marks_of}
use Rattle.hv_clauses.proofs.choices.deny_all.Given as goal

abbrev pub invariant-loop-operand : goal.invariant-loop-operand
invariant-loop-operand g l = record {
  rest : l.rest ≡ left_after l.problem.task (formulas l.problem) (take l.operand-index l.negative)
      l.number;
  denied : AreDenied l.problem.task (formulas l.problem) l.problem.effect
      (take l.operand-index l.negative) l.number (marks_of l.initial.marks) (marks_of l.marks) true;
  grown : Grows l.initial.marks l.marks;
}
