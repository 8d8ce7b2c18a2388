use Rattle.std.proofs.Common.{◌≡◌, ◌∙◌, [], length, sym, ap, arith}
use Rattle.hv_propagation.specs.Working.Buffers.{places_in, queue_in}
use Rattle.hv_propagation.specs.Trail.{Knowledge, marked}
use Rattle.hv_propagation.proofs.Trailed.{joined_none, length-marked}
use Rattle.hv_propagation.proofs.trail.Assignment.start_over.Goals as goal

pub invariant_of-self : goal.invariant_of-self
invariant_of-self c =
    let s = c.self.inside in
    let old = length-marked s.atoms s.roots in
    let new = length-marked s.atoms c.args.roots in
    let places = c.self.invariant.1.places_room in
    let queue = c.self.invariant.1.queue_room in (
      c.self.invariant.0,
      joined_none (marked s.atoms c.args.roots) (places_in s.buffers) (queue_in s.buffers)
          (omega arith) (omega arith),
    )

pub returns : goal.returns
returns c =
    let s = c.self.inside in
    let wide : s.atoms ≡ length c.args.self.now.roots =
    sym (length-marked s.atoms s.roots) ∙ ap (λ (k : Knowledge). length k.roots) c.self.view_is in
    ap {B = Knowledge} (λ n. record { roots = marked n c.args.roots; trail = [] }) wide
