use Rattle.std.proofs.Common.{◌∙◌, true, false, length, ap}
use Rattle.hv_task.specs.State.{put_all}
use Rattle.hv_explicit.proofs.Walked.{changed}
use Rattle.hv_explicit.proofs.state_walk.change.Goals as goal

pub returns-clause-held : goal.returns-clause-held
returns-clause-held c =
    c.put_all-2.ensures.put
    ∙ (ap (put_all true c.args.after.now)
    (c.put_all.ensures.put ∙ ap (put_all false c.args.before.now) c.requires.is)
    ∙ changed (length c.args.state.now) c.args.before.now c.args.after.now)
