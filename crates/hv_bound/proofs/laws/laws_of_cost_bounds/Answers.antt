use Rattle.hv_bound.proofs.Bounds.{costs_more, plan_of_within, within_of_plan}
use Rattle.hv_bound.proofs.laws.laws_of_cost_bounds.Goals as goal

pub returns-clause-solvable : goal.returns-clause-solvable
returns-clause-solvable c = (
  within_of_plan c.args.task.now c.args.most c.atoms-atoms.ensures.task,
  plan_of_within c.args.task.now c.args.most c.atoms-atoms.ensures.task,
)

pub returns-clause-costs_more : goal.returns-clause-costs_more
returns-clause-costs_more c = costs_more c.args.task.now c.args.most c.atoms-atoms.ensures.task
