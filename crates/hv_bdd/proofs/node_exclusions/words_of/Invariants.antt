use Rattle.std.proofs.Common.{◌≡◌, length}
use Rattle.hv_bdd.specs.Exclusions.{AreExclusions}
use Rattle.hv_bdd.proofs.node_exclusions.words_of.Given as goal

abbrev pub invariant-loop-batch : goal.invariant-loop-batch
invariant-loop-batch l =
    (length l.table.items ≡ l.batch)
    × AreExclusions l.side.nodes.now l.side.inside l.node l.table.items
