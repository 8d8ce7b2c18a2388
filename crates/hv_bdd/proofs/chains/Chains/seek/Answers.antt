use Rattle.hv_bdd.proofs.Sought.{any_listed}
use Rattle.hv_bdd.proofs.chains.Chains.seek.Goals as goal

pub returns : goal.returns
returns c =
    any_listed c.args.nodes.now c.args.node.now c.seek_from.result.listed c.seek_from.ensures.listed
    c.seek_from.ensures.absent
