use Rattle.hv_trap.proofs.Enclosing.{few_over}
use Rattle.hv_trap.proofs.sweep.has_news.Goals as goal

pub concerns-requires : goal.concerns-requires
concerns-requires c = few_over c.args.task.now c.action.result.now c.requires.few
    c.action.ensures.over
