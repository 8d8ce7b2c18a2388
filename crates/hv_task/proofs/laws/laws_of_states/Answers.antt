use Rattle.hv_task.proofs.Places.{has_atom-successor, length-successor, has_atom-state_of}
use Rattle.hv_task.proofs.Places.{length-state_of}
use Rattle.hv_task.proofs.laws.laws_of_states.Goals as goal

pub returns-clause-successor : goal.returns-clause-successor
returns-clause-successor c = has_atom-successor

pub returns-clause-successor_length : goal.returns-clause-successor_length
returns-clause-successor_length c = length-successor

pub returns-clause-state_of : goal.returns-clause-state_of
returns-clause-state_of c = has_atom-state_of

pub returns-clause-state_of_length : goal.returns-clause-state_of_length
returns-clause-state_of_length c = length-state_of
