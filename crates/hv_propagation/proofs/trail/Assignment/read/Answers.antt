use Rattle.std.proofs.Common.{◌∙◌, ◌<◌, length, sym, ap, arith}
use Rattle.std.proofs.lemmas.List.{get_or_default}
use Rattle.hv_propagation.specs.Marks.{known}
use Rattle.hv_propagation.specs.Working.Laws.{known_past}
use Rattle.hv_propagation.specs.Working.Buffers.{places_in, queue_in}
use Rattle.hv_propagation.specs.Trail.{Knowledge, marked, marks_of}
use Rattle.hv_propagation.specs.Working.Trail.{trail_of}
use Rattle.hv_propagation.proofs.Trailed.{no_entry_other, no_entry_past, read_none, read_entry}
use Rattle.hv_propagation.proofs.Trailed.{length-marked, length-written}
use Rattle.hv_propagation.proofs.trail.Assignment.read.Goals as goal

pub returns-then-at-self : goal.returns-then-at-self
returns-then-at-self c =
    let s = c.self.inside in
    let past = c.if-at-self.true in
    let wide = length-marked s.atoms s.roots in
    let size = length-written (trail_of (queue_in s.buffers) s.len) (marked s.atoms s.roots) in
    sym (known_past (marks_of (record {
      roots = (marked s.atoms s.roots);
      trail = trail_of
          (queue_in s.buffers) s.len;
    })) c.args.atom (omega arith))
    ∙ ap (λ (m : Knowledge). known (marks_of m) c.args.atom) c.self.view_is

pub returns-then-place-self : goal.returns-then-place-self
returns-then-place-self c =
    let s = c.self.inside in
    let joined = c.self.invariant.1 in
    let wide = length-marked s.atoms s.roots in
    let low : c.args.atom < length (marked s.atoms s.roots) =
    (let less = c.if-at-self.false in omega arith) in
    c.read.ensures
    ∙ (sym (read_none (marked s.atoms s.roots) (places_in s.buffers) (queue_in s.buffers) s.len
    c.args.atom
    joined
    (no_entry_past (marked s.atoms s.roots) (places_in s.buffers) (queue_in s.buffers) s.len
    c.args.atom
    c.place-place.result joined low
    (let buffers = joined.places_room in let less = c.if-at-self.false in
    c.place-place.ensures ∙ get_or_default (places_in s.buffers) c.args.atom 0 c.place-place.result
    (omega arith)) c.if-place-self.true))
    ∙ ap (λ (m : Knowledge). known (marks_of m) c.args.atom) c.self.view_is)

pub returns-then-entry-at : goal.returns-then-entry-at
returns-then-entry-at c =
    let s = c.self.inside in
    let joined = c.self.invariant.1 in
    let wide = length-marked s.atoms s.roots in
    let low : c.args.atom < length (marked s.atoms s.roots) =
    (let less = c.if-at-self.false in omega arith) in
    c.read-then-entry-at.ensures
    ∙ (sym (read_none (marked s.atoms s.roots) (places_in s.buffers) (queue_in s.buffers) s.len
    c.args.atom
    joined
    (no_entry_other (marked s.atoms s.roots) (places_in s.buffers) (queue_in s.buffers) s.len
    c.args.atom
    c.place-place.result c.entry-entry.result joined low
    (let buffers = joined.places_room in let less = c.if-at-self.false in
    c.place-place.ensures ∙ get_or_default (places_in s.buffers) c.args.atom 0 c.place-place.result
    (omega arith)) c.if-place-self.false
    (let buffers = joined.within in let less = c.if-place-self.false in
    c.entry-entry.ensures ∙ get_or_default (queue_in s.buffers) c.place-place.result 0
    c.entry-entry.result (omega arith)) c.if-entry-at.true))
    ∙ ap (λ (m : Knowledge). known (marks_of m) c.args.atom) c.self.view_is)

pub returns : goal.returns
returns c =
    let s = c.self.inside in
    let joined = c.self.invariant.1 in
    let wide = length-marked s.atoms s.roots in
    let low : c.args.atom < length (marked s.atoms s.roots) =
    (let less = c.if-at-self.false in omega arith) in
    sym (read_entry (marked s.atoms s.roots) (places_in s.buffers) (queue_in s.buffers) s.len
    c.args.atom
    c.place-place.result c.entry-entry.result joined c.if-place-self.false
    (let buffers = joined.within in let less = c.if-place-self.false in
    c.entry-entry.ensures ∙ get_or_default (queue_in s.buffers) c.place-place.result 0
    c.entry-entry.result (omega arith)) c.if-entry-at.false)
    ∙ ap (λ (m : Knowledge). known (marks_of m) c.args.atom) c.self.view_is

pub place-place-requires : goal.place-place-requires
place-place-requires c =
    let s = c.self.inside in
    let joined = c.self.invariant.1 in
    let buffers = joined.places_room in
    let wide = length-marked s.atoms s.roots in
    let less = c.if-at-self.false in
    omega arith
