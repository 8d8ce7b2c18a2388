use Rattle.std.proofs.Common.{arith, sym}
use Rattle.hv_task.proofs.Turned.{flags_turned}
use Rattle.hv_task.proofs.bits.turn_all.Goals as goal

pub returns-clause-flags : goal.returns-clause-flags
returns-clause-flags c =
    let i = c.loop-at.invariant in
    flags_turned c.args.words.now.items c.args.out.now.items c.args.put.now.items
    c.loop-at.words.items (sym c.requires.out) (sym c.requires.put) i.size
    (λ k less. i.done k (let e = i.size in omega arith))
