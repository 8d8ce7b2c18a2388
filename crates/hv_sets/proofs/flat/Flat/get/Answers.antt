use Rattle.std.proofs.Common.{ap, length, arith}
use Rattle.hv_sets.proofs.Pieces.{length-pieces}
use Rattle.hv_sets.proofs.flat.Flat.get.Goals as goal

pub piece_at-requires-clause-place : goal.piece_at-requires-clause-place
piece_at-requires-clause-place g c =
    let size = length-pieces c.self.inside.items.items 0 c.self.inside.ends.items in
    let is = ap (λ v. length v.whole) c.self.view_is in
    omega (arith, c.requires, size, is)
