use Rattle.std.proofs.Common.{◌≡◌, ◌<◌, ◌≤◌, true, take}
use Rattle.std.specs.List.{All}
use Rattle.hv_task.specs.State.{has_atom}
use Rattle.hv_bdd.specs.Order.{atom_at, place}
use Rattle.hv_bdd.proofs.diagrams.Diagrams.least_place.Given as goal

abbrev pub invariant-loop-atom : goal.invariant-loop-atom
invariant-loop-atom l = record {
  upto : l.least ≤ l.self.atoms;
  there : l.least < l.self.atoms
      → (l.fn.from ≤ l.least) × (has_atom l.held (atom_at l.self l.least) ≡ true);
  each : All (λ a. l.fn.from ≤ place l.self a → l.least ≤ place l.self a)
      (take l.atom-index l.atom-items);
}
