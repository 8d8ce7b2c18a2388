use Rattle.std.proofs.Common.{arith}
use Rattle.hv_bdd.proofs.Jumped.{passes_none, passes_on}
use Rattle.hv_bdd.proofs.jumps.first_from.Goals as goal

pub loop-at-init : goal.loop-at-init
loop-at-init c = passes_none c.args.nodes.now c.args.node c.args.place

pub loop-at-preserved : goal.loop-at-preserved
loop-at-preserved c =
    passes_on c.args.nodes.now c.args.node c.loop-at.at c.further-at.result c.args.place
    c.args.place (omega arith) c.loop-at.invariant c.further-at.ensures.passes
