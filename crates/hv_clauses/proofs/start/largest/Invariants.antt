use Rattle.std.proofs.Common.{IfSome}
use Rattle.hv_clauses.specs.Working.Start.{IsSetAmong}
use Rattle.hv_clauses.proofs.start.largest.Given as goal

abbrev pub invariant-loop-operand : goal.invariant-loop-operand
invariant-loop-operand g l = record { found : IfSome l.found (IsSetAmong l.operands) }
