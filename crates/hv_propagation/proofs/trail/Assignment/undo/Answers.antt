use Rattle.std.proofs.Common.{◌∙◌, List, length, take, ap, arith}
use Rattle.hv_sets.specs.declared.literal.Literal.{Literal}
use Rattle.hv_propagation.specs.Working.Buffers.{queue_in}
use Rattle.hv_propagation.specs.Trail.{Knowledge, marked}
use Rattle.hv_propagation.proofs.Trailed.{length-trail, trail_front}
use Rattle.hv_propagation.proofs.trail.Assignment.undo.Goals as goal

pub returns : goal.returns
returns c =
    let s = c.self.inside in
    let joined = c.self.invariant.1 in
    let size = length-trail (queue_in s.buffers) s.len joined.within in
    let is = ap (λ (k : Knowledge). length k.trail) c.self.view_is in
    let h = c.requires in
    ap (λ (ls : List Literal). let k : Knowledge = record
    { roots = (marked s.atoms s.roots); trail = ls } in k)
    (trail_front (queue_in s.buffers) s.len c.args.len (omega arith))
    ∙ ap (λ (k : Knowledge). let m : Knowledge = record
    { roots = k.roots; trail = take c.args.len k.trail } in m) c.self.view_is
