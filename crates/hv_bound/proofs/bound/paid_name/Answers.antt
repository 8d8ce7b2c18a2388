use Rattle.hv_bound.proofs.Faults.{no_value}
use Rattle.hv_bound.proofs.bound.paid_name.Goals as goal

pub returns-in_err-push_number : goal.returns-in_err-push_number
returns-in_err-push_number c =
    no_value c.from_residual.result _ _
    c.from_residual.ensures.1

pub returns-in_err-push_bytes : goal.returns-in_err-push_bytes
returns-in_err-push_bytes c =
    no_value c.from_residual-in_err-push_bytes.result _ _
    c.from_residual-in_err-push_bytes.ensures.1

pub returns-in_err-push_number-2 : goal.returns-in_err-push_number-2
returns-in_err-push_number-2 c =
    no_value c.from_residual-in_err-push_number-2.result _ _
    c.from_residual-in_err-push_number-2.ensures.1
