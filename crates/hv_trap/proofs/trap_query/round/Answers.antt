use Rattle.hv_trap.proofs.Enclosing.{enclose_below}
use Rattle.hv_trap.proofs.trap_query.round.Goals as goal

pub asking_of-requires : goal.asking_of-requires
asking_of-requires c = enclose_below c.args.task.now c.requires.0 c.args.clauses.now c.requires.1
