use Rattle.std.proofs.Common.{◌≡◌, ◌*◌, length}
use Rattle.hv_bdd.specs.Exclusions.{IsBatch}
use Rattle.hv_bdd.proofs.node_exclusions.batch_of.Given as goal

abbrev pub invariant-loop-k : goal.invariant-loop-k
invariant-loop-k l =
    (length l.words.items ≡ l.side.nodes.now.atoms * 2)
    × IsBatch l.side.nodes.now l.side.inside l.node l.batch l.words.items
