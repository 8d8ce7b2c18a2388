use Rattle.hv_bdd.specs.Jumps.{PassesAlong}
use Rattle.hv_bdd.proofs.jumps.first_from.Given as goal

abbrev pub invariant-loop-at : goal.invariant-loop-at
invariant-loop-at l = PassesAlong l.nodes l.fn.node l.at l.place

abbrev pub decreases-loop-at : goal.decreases-loop-at
decreases-loop-at l = l.at
