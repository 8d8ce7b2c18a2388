use Rattle.std.proofs.Common.{◌↔◌, subst, sym}
use Rattle.hv_task.specs.Strips.{Strips}
use Rattle.hv_bound.specs.Costs.{IsSolvable, IsSolvableWithin}
use Rattle.hv_bound.proofs.Bounds.{plan_of_within, within_of_plan}
use Rattle.hv_bound.proofs.Faults.{no_value}
use Rattle.hv_bound.proofs.bound.bounded.Goals as goal

pub returns-clause-solvable : goal.returns-clause-solvable
returns-clause-solvable c =
    let task = c.is_too_large.ensures.task in
    subst (λ (made : Strips). IsSolvable made ↔ IsSolvableWithin c.args.most c.args.task.now)
    (sym c.in_ok-made_task.ensures) (
      within_of_plan c.args.task.now c.args.most task,
      plan_of_within c.args.task.now c.args.most task,
    )

pub returns-in_err-made_task-clause-made : goal.returns-in_err-made_task-clause-made
returns-in_err-made_task-clause-made c =
    no_value c.from_residual.result _ _
    c.from_residual.ensures.1

pub returns-in_err-made_task-clause-solvable : goal.returns-in_err-made_task-clause-solvable
returns-in_err-made_task-clause-solvable c =
    no_value c.from_residual.result _ _
    c.from_residual.ensures.1
