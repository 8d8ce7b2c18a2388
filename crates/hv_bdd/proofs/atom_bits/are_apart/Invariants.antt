use Rattle.std.proofs.Common.{◌≡◌, ◌<◌, false, take}
use Rattle.std.specs.List.{All}
use Rattle.hv_task.specs.State.{has_atom}
use Rattle.hv_bdd.specs.Order.{place}
use Rattle.hv_bdd.proofs.atom_bits.are_apart.Given as goal

abbrev pub invariant-loop-atom : goal.invariant-loop-atom
invariant-loop-atom l =
    All (λ a. (a < l.nodes.atoms) × (has_atom l.places (place l.nodes a) ≡ false))
    (take l.atom-index l.list)
