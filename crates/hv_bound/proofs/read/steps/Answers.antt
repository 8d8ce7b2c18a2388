use Rattle.hv_bound.proofs.Faults.{no_value}
use Rattle.hv_bound.proofs.read.steps.Goals as goal

pub returns-in_err-has_line-clause-few : goal.returns-in_err-has_line-clause-few
returns-in_err-has_line-clause-few g c =
    no_value c.from_residual.result _ _
    c.from_residual.ensures.1

pub returns-in_err-step-clause-few : goal.returns-in_err-step-clause-few
returns-in_err-step-clause-few g c =
    no_value c.from_residual-in_err-step.result _ _
    c.from_residual-in_err-step.ensures.1

pub returns-in_err-add_step-clause-few : goal.returns-in_err-add_step-clause-few
returns-in_err-add_step-clause-few g c =
    no_value c.from_residual-in_err-add_step.result _ _
    c.from_residual-in_err-add_step.ensures.1
