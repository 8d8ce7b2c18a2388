use Rattle.std.proofs.Common.{◌≡◌, length}
use Rattle.hv_bdd.specs.Working.Paths.{AreCounted}
use Rattle.hv_bdd.proofs.counts.path_count.Given as goal

abbrev pub invariant-loop-lesser : goal.invariant-loop-lesser
invariant-loop-lesser l = record {
  size : length l.counts.items ≡ l.lesser;
  counted : AreCounted l.nodes l.end l.cap l.counts.items;
}
