use Rattle.std.proofs.Common.{◌≡◌, ℕ, List, Bool, ◌<◌, true, get_or}
use Rattle.hv_sets.specs.declared.operand.Operand.{Operand}
use Rattle.hv_explicit.specs.Working.Search.{HasJust, in_named}
use Rattle.hv_explicit.proofs.sets_query.SetsQuery.is_hit_among.Given as goal

abbrev pub invariant-loop-operand : goal.invariant-loop-operand
invariant-loop-operand g l =
    (state : List Bool) → HasJust l.self.task (g.A.Sought.has l.held) state
    → (k : ℕ) (d : Operand) → k < l.operand-index → (get_or l.operands k d).after ≡ l.after
    → in_named l.self (get_or l.operands k d).which state ≡ true
    → ⊥
