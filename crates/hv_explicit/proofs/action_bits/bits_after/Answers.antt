use Rattle.std.proofs.Common.{w64, ◌∙◌, ◌||◌, ap, eqb}
use Rattle.std.proofs.lemmas.Nat.Bits.{bit_at-lt, bit_at_or}
use Rattle.std.specs.Prelude.{bit_and}
use Rattle.std.specs.Int.{bit_at, bit_not}
use Rattle.hv_task.proofs.Outside.{bit_outside}
use Rattle.hv_task.proofs.Turned.{either_bit}
use Rattle.hv_explicit.proofs.action_bits.bits_after.Goals as goal

pub returns : goal.returns
returns c = λ p small.
    let left = bit_and c.args.code (bit_not w64 c.args.del) in
    ap (λ x. eqb x 1) (bit_at_or left c.args.add p)
    ∙ either_bit (bit_at left p) (bit_at c.args.add p) (bit_at-lt left p)
    (bit_at-lt c.args.add p)
    ∙ ap (λ x. eqb (bit_at c.args.add p) 1 || x)
    (bit_outside c.args.code c.args.del p c.ranges.del.fits small)
