use Rattle.std.proofs.Common.{ℕ, ◌<◌, get_or}
use Rattle.hv_sets.specs.declared.operand.Operand.{Operand}
use Rattle.hv_clauses.specs.Working.Posed.{size_in}
use Rattle.hv_clauses.proofs.choices.has_empty.Given as goal

abbrev pub invariant-loop-operand : goal.invariant-loop-operand
invariant-loop-operand g l = (k : ℕ) (d : Operand) → k < l.operand-index
    → 0 < size_in l.problem (get_or l.negative k d).which
