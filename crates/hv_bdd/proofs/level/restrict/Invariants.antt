use Rattle.std.proofs.Common.{◌≡◌, ◌<◌, ℕ, Bool, true, List, length, slice_index_or}
use Rattle.std.specs.List.{Contains}
use Rattle.hv_sets.specs.Truth.{in_literal}
use Rattle.hv_bdd.specs.Nodes.{in_node}
use Rattle.hv_bdd.specs.Fronts.{AreBelowBound}
use Rattle.hv_bdd.proofs.level.restrict.Given as goal

abbrev pub invariant-loop-at : goal.invariant-loop-at
invariant-loop-at l =
    (length l.places.items ≡ length l.fn.places.items)
    × AreBelowBound (length l.fn.places.items) l.list.items
    × ((s : List Bool) (k : ℕ) → in_literal l.literal s ≡ true → k < l.at
    → in_node l.side.nodes.now (slice_index_or l.front k 0) s ≡ l.side.inside
    → (y : ℕ) × Contains l.list.items y × (in_node l.side.nodes.now y s ≡ l.side.inside))
