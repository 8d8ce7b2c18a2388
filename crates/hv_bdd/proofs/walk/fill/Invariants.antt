use Rattle.std.proofs.Common.{◌≡◌, take}
use Rattle.hv_sets.specs.Cubes.{SpeakBelow, cube_of}
use Rattle.hv_bdd.specs.Working.Paths.{literals_of}
use Rattle.hv_bdd.proofs.walk.fill.Given as goal

abbrev pub invariant-loop-at : goal.invariant-loop-at
invariant-loop-at l = record {
  cube : l.cube ≡ cube_of (literals_of l.nodes (take l.at l.path));
  below : SpeakBelow l.nodes.atoms l.cube;
}
