use Rattle.std.proofs.Common.{ap, length, arith}
use Rattle.hv_sets.proofs.Pieces.{length-pieces}
use Rattle.hv_sets.proofs.few.Few.get.Goals as goal

pub piece_at-requires-clause-place : goal.piece_at-requires-clause-place
piece_at-requires-clause-place g c =
    let size = length-pieces c.parts-parts.result.items.now 0 c.parts-parts.result.ends.now in
    let is = ap (λ v. length v.whole) c.parts-parts.ensures.are in
    omega (arith, c.requires, size, is)
