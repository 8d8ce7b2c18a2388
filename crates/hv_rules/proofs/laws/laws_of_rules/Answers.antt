use Rattle.hv_rules.proofs.Sound.{sound}
use Rattle.hv_rules.proofs.laws.laws_of_rules.Goals as goal

pub returns : goal.returns
returns c = λ lines table. sound c.args.task.now c.args.diagrams.now lines table
