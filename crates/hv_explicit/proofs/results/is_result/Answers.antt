use Rattle.std.proofs.Common.{◌↔◌, IsTrue, subst}
use Rattle.hv_explicit.specs.Working.Codes.{IsSame}
use Rattle.hv_explicit.specs.Working.Results.{made}
use Rattle.hv_explicit.proofs.results.is_result.Goals as goal

pub returns : goal.returns
returns c =
    let list = c.args.list.now in
    let held = c.args.held.now in
    let action = c.args.action.now in
    subst (λ del. IsTrue c.is_made.result ↔ IsSame (made action.add del held) list)
    c.as_slice-del.ensures.items
    (subst (λ add. IsTrue c.is_made.result ↔ IsSame (made add c.as_slice-del.result.now held) list)
    c.as_slice-add.ensures.items c.is_made.ensures)
