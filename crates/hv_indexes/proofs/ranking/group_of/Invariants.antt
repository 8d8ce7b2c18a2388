use Rattle.std.proofs.Common.{◌<◌, ◌≤◌}
use Rattle.hv_indexes.proofs.ranking.group_of.Given as goal

abbrev pub invariant-loop-literal : goal.invariant-loop-literal
invariant-loop-literal l = (l.group.number < l.group.count) × (l.group.count ≤ 65536)
