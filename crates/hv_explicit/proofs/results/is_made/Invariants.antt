use Rattle.std.proofs.Common.{◌+◌, ◌-◌, length}
use Rattle.hv_explicit.specs.Working.Results.{IsStand}
use Rattle.hv_explicit.proofs.results.is_made.Given as goal

abbrev pub invariant-loop-atom : goal.invariant-loop-atom
invariant-loop-atom l = IsStand l.list l.held l.add l.del l.stand

abbrev pub decreases-loop-atom : goal.decreases-loop-atom
decreases-loop-atom l = length l.add + length l.del - (l.stand.added + l.stand.deleted)
