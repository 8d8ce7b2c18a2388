use Rattle.std.proofs.Common.{◌-◌, ◌^◌, arith}
use Rattle.std.proofs.lemmas.Nat.{one_shl}
use Rattle.std.proofs.lemmas.Nat.Bits.{bit_at_and, bit_at_ones, bit_at_ones_above, bit_at-lt}
use Rattle.hv_task.proofs.bits.low_bits.Goals as goal

pub returns-clause-low : goal.returns-clause-low
returns-clause-low c = λ i less.
    rw (one_shl c.args.k 64 c.requires)
    (let both = bit_at_and c.args.word (2 ^ c.args.k - 1) i in
    let one = bit_at_ones c.args.k i less in
    let small = bit_at-lt c.args.word i in omega arith)

pub returns-clause-high : goal.returns-clause-high
returns-clause-high c = λ i upto.
    rw (one_shl c.args.k 64 c.requires)
    (let both = bit_at_and c.args.word (2 ^ c.args.k - 1) i in
    let none = bit_at_ones_above c.args.k i upto in omega arith)
