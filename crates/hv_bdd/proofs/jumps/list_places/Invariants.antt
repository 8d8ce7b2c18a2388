use Rattle.std.proofs.Common.{◌≡◌, ◌++◌, drop, map}
use Rattle.hv_bdd.specs.Order.{place}
use Rattle.hv_bdd.proofs.jumps.list_places.Given as goal

abbrev pub invariant-loop-atom : goal.invariant-loop-atom
invariant-loop-atom l =
    l.places.items ++ map (place l.nodes) (drop l.atom-index l.held)
    ≡ map (place l.nodes) l.held
