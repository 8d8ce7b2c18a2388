use Rattle.std.proofs.Common.{◌≡◌, take}
use Rattle.hv_sets.specs.Cubes.{SpeakBelow}
use Rattle.hv_bdd.specs.Working.Paths.{literals_of}
use Rattle.hv_bdd.proofs.walk.extend.Given as goal

abbrev pub invariant-loop-at : goal.invariant-loop-at
invariant-loop-at l = record {
  front : l.literals.items ≡ take l.at (literals_of l.nodes l.path);
  below : SpeakBelow l.nodes.atoms l.literals.items;
}
