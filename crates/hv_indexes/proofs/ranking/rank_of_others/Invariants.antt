use Rattle.std.proofs.Common.{◌≤◌}
use Rattle.hv_indexes.proofs.ranking.rank_of_others.Given as goal

abbrev pub invariant-loop-literal : goal.invariant-loop-literal
invariant-loop-literal l = (l.first ≤ 131071) × (l.second ≤ 131071)
