use Rattle.std.proofs.Common.{◌≡◌, length}
use Rattle.hv_bdd.specs.Fronts.{AreBelowBound}
use Rattle.hv_bdd.specs.Working.Fronts.{IsContinued, IsAhead}
use Rattle.hv_bdd.proofs.level.advance.Given as goal

abbrev pub invariant-loop-at : goal.invariant-loop-at
invariant-loop-at l =
    (length l.places.items ≡ length l.fn.places.items)
    × AreBelowBound (length l.fn.places.items) l.queue.items
    × AreBelowBound (length l.fn.places.items) l.out.items
    × IsContinued l.fn.queue.items l.queue.items
    × IsAhead l.side.nodes.now l.side.inside l.out.items l.queue.items l.at
