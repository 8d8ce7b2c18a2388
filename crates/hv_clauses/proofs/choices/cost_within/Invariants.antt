use Rattle.std.proofs.Common.{◌≡◌, take}
use Rattle.hv_sets.specs.Cost.{choices_of}
use Rattle.hv_clauses.specs.Working.Posed.{sizes}
use Rattle.hv_clauses.proofs.choices.cost_within.Given as goal

abbrev pub invariant-loop-operand : goal.invariant-loop-operand
invariant-loop-operand g l = l.cost ≡ choices_of l.problem.task (sizes l.problem)
    (take l.operand-index l.negative)
