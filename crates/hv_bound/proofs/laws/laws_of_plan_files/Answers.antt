use Rattle.hv_bound.proofs.Texts.{gives_steps, names_limit, names_place, one_of_three}
use Rattle.hv_bound.proofs.laws.laws_of_plan_files.Goals as goal

pub returns-clause-steps : goal.returns-clause-steps
returns-clause-steps c = gives_steps

pub returns-clause-place : goal.returns-clause-place
returns-clause-place c = names_place

pub returns-clause-limit : goal.returns-clause-limit
returns-clause-limit c = names_limit

pub returns-clause-kinds : goal.returns-clause-kinds
returns-clause-kinds c = one_of_three
