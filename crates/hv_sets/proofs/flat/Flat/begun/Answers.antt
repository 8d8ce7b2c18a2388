use Rattle.std.proofs.Common.{ap, arith}
use Rattle.hv_sets.specs.Working.Pieces.{last_end}
use Rattle.hv_sets.proofs.Pieces.{last_within}
use Rattle.hv_sets.proofs.flat.Flat.begun.Goals as goal

pub overflow_sub-result : goal.overflow_sub-result
overflow_sub-result g c =
    let upto = last_within c.self.inside.items.items 0 c.self.inside.ends.items c.self.invariant in
    let items = c.len.ensures in
    let end = c.end_of_last.ensures in
    let value = ap (λ es. last_end 0 es) c.deref.ensures.value in
    omega (arith, upto, items, c.self.inside.items.ok.0, end, value)
