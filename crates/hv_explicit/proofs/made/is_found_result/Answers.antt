use Rattle.std.proofs.Common.{subst}
use Rattle.hv_explicit.specs.Working.Codes.{IsSame}
use Rattle.hv_explicit.specs.Working.Results.{made}
use Rattle.hv_explicit.proofs.Merging.{made_changed}
use Rattle.hv_explicit.proofs.made.is_found_result.Goals as goal

pub returns : goal.returns
returns c = λ yes.
    let list = c.args.list.now in
    let held = c.args.held.now in
    let action = c.args.action.now in
    let add = c.as_slice-add.result.now in
    let del = c.as_slice-del.result.now in
    let sure = c.if-not-is_changed.false in
    subst (λ ds. IsSame (made action.add ds held) list) c.as_slice-del.ensures.items
    (subst (λ as_. IsSame (made as_ del held) list) c.as_slice-add.ensures.items
    (made_changed list held add del (c.is_changed.ensures.added sure)
    (c.is_changed.ensures.listed sure) (c.is_changed.ensures.kept sure)
    (c.has_no_other.ensures.0 yes)))
