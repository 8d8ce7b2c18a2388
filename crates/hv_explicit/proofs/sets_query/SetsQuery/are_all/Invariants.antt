use Rattle.std.proofs.Common.{◌≡◌, Bool, List, true, take}
use Rattle.std.specs.List.{list_all}
use Rattle.hv_explicit.specs.Working.Search.{HasJust, in_either}
use Rattle.hv_explicit.proofs.sets_query.SetsQuery.are_all.Given as goal

abbrev pub invariant-loop-operand : goal.invariant-loop-operand
invariant-loop-operand g l =
    (b a : List Bool) → HasJust l.self.task (g.B.Sought.has l.before) b
    → HasJust l.self.task (g.A.Sought.has l.after) a
    → list_all (in_either l.self b a)
    (take l.operand-index l.operands) ≡ true
