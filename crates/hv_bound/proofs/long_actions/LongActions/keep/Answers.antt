use Rattle.hv_bound.proofs.Faults.{no_value}
use Rattle.hv_bound.proofs.long_actions.LongActions.keep.Goals as goal

pub returns-in_err-note-clause-kept : goal.returns-in_err-note-clause-kept
returns-in_err-note-clause-kept c =
    no_value c.from_residual.result _ _
    c.from_residual.ensures.1

pub returns-in_err-note-clause-there : goal.returns-in_err-note-clause-there
returns-in_err-note-clause-there c =
    no_value c.from_residual.result _ _
    c.from_residual.ensures.1

pub returns-in_err-rows-clause-kept : goal.returns-in_err-rows-clause-kept
returns-in_err-rows-clause-kept c =
    no_value c.from_residual-in_err-rows.result _ _
    c.from_residual-in_err-rows.ensures.1

pub returns-in_err-rows-clause-there : goal.returns-in_err-rows-clause-there
returns-in_err-rows-clause-there c =
    no_value c.from_residual-in_err-rows.result _ _
    c.from_residual-in_err-rows.ensures.1

pub returns-in_err-push-clause-kept : goal.returns-in_err-push-clause-kept
returns-in_err-push-clause-kept c =
    no_value c.from_residual-in_err-push.result _ _
    c.from_residual-in_err-push.ensures.1

pub returns-in_err-push-clause-there : goal.returns-in_err-push-clause-there
returns-in_err-push-clause-there c =
    no_value c.from_residual-in_err-push.result _ _
    c.from_residual-in_err-push.ensures.1
