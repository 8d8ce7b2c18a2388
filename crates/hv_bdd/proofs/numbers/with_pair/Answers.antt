use Rattle.std.proofs.Common.{◌+◌, ◌<◌, arith, get_or, refl}
use Rattle.hv_bdd.proofs.ShortFronts.{pair_spelled}
use Rattle.hv_bdd.proofs.numbers.with_pair.Goals as goal

pub returns-clause-spelled : goal.returns-clause-spelled
returns-clause-spelled c = λ few.
    let fits = c.type_inv.line c.args.count in
    let more = c.type_inv.line (c.args.count + 1) in
    let byte : get_or c.args.line.now c.args.count 0 < 256 = omega arith in
    let other : get_or c.args.line.now (c.args.count + 1) 0 < 256 = omega arith in (
      omega arith,
      λ so_far. pair_spelled c.args.digits.now c.args.line.now c.args.count c.args.number _
          c.requires.digits c.requires.count byte other refl few so_far,
    )
