use Rattle.std.proofs.Common.{ℕ, ◌<◌, [], get_or}
use Rattle.hv_basic.proofs.kinds.are_of.Given as goal

abbrev pub invariant-loop-place : goal.invariant-loop-place
invariant-loop-place g l = (k : ℕ) → k < l.place → g.K.ClauseKind.is_of (get_or l.clauses k [])
