use Rattle.std.proofs.Common.{◌∙◌, sym}
use Rattle.hv_reach.proofs.Waiting.{step_one}
use Rattle.hv_reach.proofs.atom_search.reach.Goals as goal

pub returns-clause-step : goal.returns-clause-step
returns-clause-step c =
    rw (c.set.ensures, c.in_ok-push.ensures.items)
    (step_one c.args.held.now c.args.queue.now.items c.args.atom c.requires
    (sym c.has.ensures ∙ c.if-has.false))
