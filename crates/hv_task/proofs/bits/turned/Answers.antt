use Rattle.std.proofs.Common.{◌∙◌, ◌||◌, ap, eqb}
use Rattle.std.proofs.lemmas.Nat.Bits.{bit_at-lt, bit_at_or}
use Rattle.std.specs.Int.{bit_at}
use Rattle.hv_task.proofs.Turned.{either_bit}
use Rattle.hv_task.proofs.bits.turned.Goals as goal

pub returns : goal.returns
returns c = λ i small.
    ap (λ x. eqb x 1) (bit_at_or c.outside.result c.args.put i)
    ∙ either_bit (bit_at c.outside.result i) (bit_at c.args.put i)
    (bit_at-lt c.outside.result i) (bit_at-lt c.args.put i)
    ∙ ap (λ x. eqb (bit_at c.args.put i) 1 || x) (c.outside.ensures i small)
