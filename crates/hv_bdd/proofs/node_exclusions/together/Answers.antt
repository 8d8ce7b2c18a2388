use Rattle.hv_bdd.proofs.Excluded.{joined_more}
use Rattle.hv_bdd.proofs.node_exclusions.together.Goals as goal

pub loop-k-preserved : goal.loop-k-preserved
loop-k-preserved c =
    joined_more c.args.masks.now c.args.nodes.now c.loop-k.word c.loop-k.k c.loop-k.invariant
