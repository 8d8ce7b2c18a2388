use Rattle.std.proofs.Common.{arith}
use Rattle.hv_bound.proofs.Copying.{length-copies_paid}
use Rattle.hv_bound.proofs.bound.count_copies.Goals as goal

pub returns-else-action-eq0-clause-count : goal.returns-else-action-eq0-clause-count
returns-else-action-eq0-clause-count c = λ first number.
    let paid = length-copies_paid first c.args.most number c.args.action.now
    c.if-action-eq0.false in omega arith
