use Rattle.std.proofs.Common.{◌∙◌, ◌==◌, ◌/◌, ◌%◌, Some, length, get_or, slice_get, ap, sym, arith}
use Rattle.std.proofs.lemmas.Option.{slice_get-get_or}
use Rattle.hv_sets.specs.declared.literal.Literal.{Literal}
use Rattle.hv_propagation.specs.Marks.{known}
use Rattle.hv_propagation.specs.Working.Buffers.{places_in, queue_in}
use Rattle.hv_propagation.specs.Trail.{Knowledge, marked, marks_of}
use Rattle.hv_propagation.specs.Working.Trail.{trail_of}
use Rattle.hv_indexes.specs.Occurrences.{literal_of}
use Rattle.hv_propagation.proofs.Trailed.{length-trail, read_some, trail_at}
use Rattle.hv_propagation.proofs.trail.Assignment.get_known.Goals as goal

pub entry-entry-requires : goal.entry-entry-requires
entry-entry-requires c =
    let s = c.self.inside in
    let joined = c.self.invariant.1 in
    let size = length-trail (queue_in s.buffers) s.len joined.within in
    let within = joined.within in
    let is = ap (λ (k : Knowledge). length k.trail) c.self.view_is in
    let h = c.requires in
    omega arith

pub returns-clause-here : goal.returns-clause-here
returns-clause-here c =
    let s = c.self.inside in
    let joined = c.self.invariant.1 in
    let size = length-trail (queue_in s.buffers) s.len joined.within in
    let is = ap (λ (k : Knowledge). length k.trail) c.self.view_is in
    let h = c.requires in
    sym (ap (λ (k : Knowledge). slice_get k.trail c.args.place) c.self.view_is)
    ∙ (slice_get-get_or (trail_of (queue_in s.buffers) s.len) c.args.place (literal_of 0) (omega
    arith)
    ∙ ap (λ (l : Literal). Some l) (trail_at (queue_in s.buffers) s.len c.args.place (literal_of 0)
    joined.within (omega arith)
    ∙ ap literal_of (sym c.entry-entry.ensures)))

pub returns-clause-below : goal.returns-clause-below
returns-clause-below c =
    let s = c.self.inside in
    let joined = c.self.invariant.1 in
    let size = length-trail (queue_in s.buffers) s.len joined.within in
    let is = ap (λ (k : Knowledge). length k.trail) c.self.view_is in
    let atoms = ap (λ (k : Knowledge). length k.roots) c.self.view_is in
    let h = c.requires in
    let low = joined.below c.args.place (omega arith) in
    let at = ap (λ n. n / 2) c.entry-entry.ensures in
    omega arith

pub returns-clause-known : goal.returns-clause-known
returns-clause-known c =
    let s = c.self.inside in
    let joined = c.self.invariant.1 in
    let queue = queue_in s.buffers in
    let size = length-trail queue s.len joined.within in
    let is = ap (λ (k : Knowledge). length k.trail) c.self.view_is in
    let h = c.requires in
    ap (λ n. known (marks_of c.args.self.now) (n / 2)) c.entry-entry.ensures
    ∙ (ap (λ (m : Knowledge). known (marks_of m) (get_or queue c.args.place 0 / 2))
    (sym c.self.view_is)
    ∙ (read_some (marked s.atoms s.roots) (places_in s.buffers) queue s.len c.args.place joined
    (omega arith)
    ∙ ap (λ n. Some (n % 2 == 1)) (sym c.entry-entry.ensures)))
