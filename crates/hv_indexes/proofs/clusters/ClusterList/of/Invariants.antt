use Rattle.hv_indexes.specs.Working.Mates.{AreClustersUpto}
use Rattle.hv_indexes.proofs.clusters.ClusterList.of.Given as goal

abbrev pub invariant-loop-at : goal.invariant-loop-at
invariant-loop-at l = AreClustersUpto l.clauses l.heads l.places l.at l.list
