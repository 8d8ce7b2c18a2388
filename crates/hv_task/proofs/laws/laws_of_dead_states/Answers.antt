use Rattle.std.proofs.Common.{◌≡◌, true}
use Rattle.hv_task.proofs.Deadness.{progress, regress, progress_initial, regress_initial}
use Rattle.hv_task.proofs.Deadness.{none_from_start, none_to_goal}
use Rattle.hv_task.proofs.laws.laws_of_dead_states.Goals as goal

pub returns-clause-progression : goal.returns-clause-progression
returns-clause-progression c = λ set others. progress c.args.task.now (λ s. set s ≡ true)
    (λ s. others s ≡ true)

pub returns-clause-regression : goal.returns-clause-regression
returns-clause-regression c = λ set others. regress c.args.task.now (λ s. set s ≡ true)
    (λ s. others s ≡ true)

pub returns-clause-progression_from_start : goal.returns-clause-progression_from_start
returns-clause-progression_from_start c = λ set others. progress_initial c.args.task.now
    (λ s. set s ≡ true) (λ s. others s ≡ true)

pub returns-clause-regression_to_start : goal.returns-clause-regression_to_start
returns-clause-regression_to_start c = λ set others. regress_initial c.args.task.now
    (λ s. set s ≡ true) (λ s. others s ≡ true)

pub returns-clause-dead_start : goal.returns-clause-dead_start
returns-clause-dead_start c = none_from_start c.args.task.now

pub returns-clause-dead_goals : goal.returns-clause-dead_goals
returns-clause-dead_goals c = none_to_goal c.args.task.now
