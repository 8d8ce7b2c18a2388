use Rattle.hv_trap.proofs.Proofs.{trap_modest, trap_proof_ends, trap_proof_good, trap_proof_once}
use Rattle.hv_trap.proofs.Proofs.{trap_proof_size}
use Rattle.hv_trap.proofs.laws.laws_of_trap_proofs.Goals as goal

pub returns-clause-once : goal.returns-clause-once
returns-clause-once c = trap_proof_once

pub returns-clause-size : goal.returns-clause-size
returns-clause-size c = trap_proof_size

pub returns-clause-good : goal.returns-clause-good
returns-clause-good c = trap_proof_good

pub returns-clause-concludes : goal.returns-clause-concludes
returns-clause-concludes c = trap_proof_ends

pub returns-clause-modest : goal.returns-clause-modest
returns-clause-modest c = trap_modest
