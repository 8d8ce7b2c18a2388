use Rattle.hv_sas.proofs.Atoms.{atom_apart, atom_below, atom_found}
use Rattle.hv_sas.proofs.Legal.{is_task, names_value}
use Rattle.hv_sas.proofs.laws.laws_of_made_tasks.Goals as goal

pub returns-clause-below : goal.returns-clause-below
returns-clause-below c = atom_below

pub returns-clause-apart : goal.returns-clause-apart
returns-clause-apart c = atom_apart

pub returns-clause-each : goal.returns-clause-each
returns-clause-each c = atom_found

pub returns-clause-named : goal.returns-clause-named
returns-clause-named c = names_value

pub returns-clause-task : goal.returns-clause-task
returns-clause-task c = is_task
