use Rattle.std.proofs.Common.{◌∙◌, ap, length}
use Rattle.hv_task.proofs.Places.{length-state_of}
use Rattle.hv_bdd.proofs.jumps.Jumps.has.Goals as goal

pub walk-yes-requires-clause-state : goal.walk-yes-requires-clause-state
walk-yes-requires-clause-state c =
    ap length c.requires.state ∙ length-state_of c.args.nodes.now.atoms c.args.held.now
