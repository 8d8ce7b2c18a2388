use Rattle.std.proofs.Common.{ap, length, arith}
use Rattle.hv_sets.proofs.Pieces.{length-pieces}
use Rattle.hv_sets.proofs.few.Few.len.Goals as goal

pub returns : goal.returns
returns g c =
    let size = length-pieces c.parts.result.items.now 0 c.parts.result.ends.now in
    let is = ap (λ v. length v.whole) c.parts.ensures.are in
    omega (arith, size, is)
