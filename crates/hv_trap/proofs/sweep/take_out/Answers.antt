use Rattle.hv_trap.proofs.Enclosing.{few_below}
use Rattle.hv_trap.proofs.sweep.take_out.Goals as goal

pub of-rows-requires : goal.of-rows-requires
of-rows-requires c = few_below c.args.task.now c.args.clauses.now c.requires.few c.requires.clauses
