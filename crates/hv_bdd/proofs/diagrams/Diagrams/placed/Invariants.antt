use Rattle.std.proofs.Common.{◌≡◌, drop, length, map, true}
use Rattle.hv_task.specs.State.{put_all, state_of}
use Rattle.hv_bdd.specs.Order.{place}
use Rattle.hv_bdd.proofs.diagrams.Diagrams.placed.Given as goal

abbrev pub invariant-loop-atom : goal.invariant-loop-atom
invariant-loop-atom l = record {
  size : length l.placed ≡ l.self.atoms;
  rest : put_all true (map (place l.self) (drop l.atom-index l.atom-items)) l.placed
      ≡ state_of l.self.atoms (map (place l.self) l.atom-items);
}
