use Rattle.std.proofs.Common.{◌-◌, arith}
use Rattle.hv_task.proofs.Rising.{rises_upto}
use Rattle.hv_explicit.proofs.near.start_at.Goals as goal

pub returns-clause-less : goal.returns-clause-less
returns-clause-less c = λ k less.
    let within = c.if-near-list.false in
    let last = c.if-list-near.false in
    let upto = rises_upto c.args.list.now k (c.args.near - 1) c.requires (omega arith)
    (omega arith) in
    omega arith
