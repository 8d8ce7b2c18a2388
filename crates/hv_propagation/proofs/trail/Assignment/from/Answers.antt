use Rattle.std.proofs.Common.{length, ap, arith}
use Rattle.hv_propagation.specs.Working.Buffers.{places_in, queue_in}
use Rattle.hv_propagation.specs.Trail.{marked}
use Rattle.hv_propagation.proofs.Trailed.{joined_none, length-marked}
use Rattle.hv_propagation.proofs.trail.Assignment.from.Goals as goal

pub invariant_of-result : goal.invariant_of-result
invariant_of-result c =
    let wide = length-marked c.args.atoms c.args.roots in
    let places = ap length c.lent.ensures.places in
    let queue = ap length c.lent.ensures.queue in (
      c.requires.few,
      joined_none (marked c.args.atoms c.args.roots) (places_in c.lent.result)
          (queue_in c.lent.result) (omega (arith, c.requires.places))
          (omega (arith, c.requires.queue)),
    )
