use Rattle.std.proofs.Common.{◌+◌, ◌-◌, ◌/◌, arith}
use Rattle.hv_replay.proofs.LeadingOn.{second_open}
use Rattle.hv_replay.proofs.leading.half.Goals as goal

pub returns-then-branch-clause-part : goal.returns-then-branch-clause-part
returns-then-branch-clause-part c =
    let part = c.args.part in
    let order = c.requires.part.inside.order in
    second_open c.args.task.now c.args.log.now part (part.from + (part.upto - part.from) / 2)
    c.requires.part (omega arith) (c.in_ok-lead_on.ensures.lead c.if-branch.true)
