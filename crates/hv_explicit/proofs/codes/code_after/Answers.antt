use Rattle.std.proofs.Common.{◌≡◌, sym, subst}
use Rattle.hv_task.specs.State.{AreBelow}
use Rattle.hv_task.specs.Atoms.{is_after}
use Rattle.hv_explicit.specs.Working.Codes.{code_sum, with_more, without}
use Rattle.hv_explicit.proofs.Totals.{after_agrees, code_agrees}
use Rattle.hv_explicit.proofs.codes.code_after.Goals as goal

pub returns : goal.returns
returns c = λ bound below over.
    let add = c.args.action.now.add in
    let held = c.args.held.now in
    code_agrees c.args.key (with_more add (without c.args.action.now.del add held))
    (is_after c.args.action.now held) bound
    c.code_with.result (after_agrees c.args.action.now held)
    (subst (λ del. c.code_with.result ≡ code_sum c.args.key
    (with_more add (without del add held)) bound) c.as_slice-del.ensures.items
    (rw c.as_slice-add.ensures.items at (c.code_with.ensures bound below
    (subst (AreBelow bound) (sym c.as_slice-add.ensures.items) over.add))))
