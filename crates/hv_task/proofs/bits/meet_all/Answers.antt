use Rattle.std.proofs.Common.{arith}
use Rattle.hv_task.proofs.Outside.{flags_met}
use Rattle.hv_task.proofs.bits.meet_all.Goals as goal

pub returns-clause-flags : goal.returns-clause-flags
returns-clause-flags c =
    let i = c.loop-at.invariant in
    flags_met c.args.words.now.items c.args.other.now.items c.loop-at.words.items
    (let e = c.requires in omega arith) i.size
    (λ k less. i.done k (let e = i.size in omega arith))
