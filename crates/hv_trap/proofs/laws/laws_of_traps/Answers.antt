use Rattle.hv_trap.proofs.Covered.{satisfied_dead}
use Rattle.hv_trap.proofs.Formulas.{trap_few}
use Rattle.hv_trap.proofs.Trapped.{trap_goalless, trap_once, trap_satisfied, trap_stays}
use Rattle.hv_trap.proofs.laws.laws_of_traps.Goals as goal

pub returns-clause-once : goal.returns-clause-once
returns-clause-once c = trap_once

pub returns-clause-satisfied : goal.returns-clause-satisfied
returns-clause-satisfied c = trap_satisfied

pub returns-clause-stays : goal.returns-clause-stays
returns-clause-stays c = trap_stays

pub returns-clause-goalless : goal.returns-clause-goalless
returns-clause-goalless c = trap_goalless

pub returns-clause-few : goal.returns-clause-few
returns-clause-few c = trap_few

pub returns-clause-dead : goal.returns-clause-dead
returns-clause-dead c = satisfied_dead
