use Rattle.std.proofs.Common.{◌≡◌, ◌++◌, map, true, false, take}
use Rattle.hv_bdd.specs.Live.{asked_of}
use Rattle.hv_bdd.specs.Working.Search.{active}
use Rattle.hv_bdd.proofs.node_queries.active_operands.Given as goal

abbrev pub invariant-loop-operand : goal.invariant-loop-operand
invariant-loop-operand l = l.asked.items
    ≡ active (map (asked_of true) (take l.operand-index l.operand-items))

abbrev pub invariant-loop-operand-2 : goal.invariant-loop-operand-2
invariant-loop-operand-2 l = l.asked.items ≡ l.initial.asked.items
    ++ active (map (asked_of false) (take l.operand-index l.operand-items))
