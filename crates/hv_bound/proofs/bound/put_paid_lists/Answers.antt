use Rattle.hv_bound.proofs.Faults.{no_value}
use Rattle.hv_bound.proofs.bound.put_paid_lists.Goals as goal

pub returns-in_err-copy : goal.returns-in_err-copy
returns-in_err-copy c =
    no_value c.from_residual.result _ _
    c.from_residual.ensures.1

pub returns-in_err-copy-2 : goal.returns-in_err-copy-2
returns-in_err-copy-2 c =
    no_value c.from_residual-in_err-copy-2.result _ _
    c.from_residual-in_err-copy-2.ensures.1

pub returns-in_err-copy-3 : goal.returns-in_err-copy-3
returns-in_err-copy-3 c =
    no_value c.from_residual-in_err-copy-3.result _ _
    c.from_residual-in_err-copy-3.ensures.1
