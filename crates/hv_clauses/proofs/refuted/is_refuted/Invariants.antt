use Rattle.std.proofs.Common.{◌≡◌, take}
use Rattle.hv_clauses.specs.Working.Posed.{formulas}
use Rattle.hv_clauses.proofs.OperandRounds.{left_after}
use Rattle.hv_clauses.proofs.refuted.is_refuted.Given as goal

abbrev pub invariant-loop-operand : goal.invariant-loop-operand
invariant-loop-operand g l = record {
  rest : l.rest ≡ left_after l.problem.task (formulas l.problem) (take l.operand-index l.negative)
      l.number;
}
