use Rattle.std.proofs.Common.{arith}
use Rattle.hv_propagation.specs.Working.Buffers.{places_in, queue_in}
use Rattle.hv_propagation.specs.Trail.{marked}
use Rattle.hv_propagation.proofs.Trailed.{joined_none, length-marked}
use Rattle.hv_propagation.proofs.trail.Assignment.owned.Goals as goal

pub invariant_of-result : goal.invariant_of-result
invariant_of-result c =
    let wide = length-marked c.args.atoms c.args.roots in
    let places = c.in_ok-buffers.ensures.places in
    let queue = c.in_ok-buffers.ensures.queue in (
      c.requires.few,
      joined_none (marked c.args.atoms c.args.roots) (places_in c.in_ok-buffers.buffers)
          (queue_in c.in_ok-buffers.buffers) (omega arith) (omega arith),
    )
