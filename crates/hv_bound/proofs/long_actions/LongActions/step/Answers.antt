use Rattle.hv_bound.proofs.Faults.{no_value}
use Rattle.hv_bound.proofs.long_actions.LongActions.step.Goals as goal

pub returns-in_err-place-clause-kept : goal.returns-in_err-place-clause-kept
returns-in_err-place-clause-kept c =
    no_value c.from_residual.result _ _
    c.from_residual.ensures.1

pub returns-in_err-place-clause-step : goal.returns-in_err-place-clause-step
returns-in_err-place-clause-step c =
    no_value c.from_residual.result _ _
    c.from_residual.ensures.1
