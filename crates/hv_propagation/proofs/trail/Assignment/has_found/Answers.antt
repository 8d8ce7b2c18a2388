use Rattle.std.proofs.Common.{◌≡◌, ◌∙◌, Bool, Some, true, false, ap, arith, refl, sym}
use Rattle.std.proofs.Math.Bool.{beq}
use Rattle.std.proofs.lemmas.List.{get_or_default}
use Rattle.hv_propagation.specs.Marks.{known}
use Rattle.hv_propagation.specs.Working.Buffers.{places_in, queue_in}
use Rattle.hv_propagation.specs.Trail.{Knowledge, marked, marks_of}
use Rattle.hv_propagation.proofs.Trailed.{read_entry}
use Rattle.hv_propagation.proofs.Trailed.{length-marked}
use Rattle.hv_propagation.proofs.trail.Assignment.has_found.Goals as goal

same_sign : (a b : Bool) → beq a b ≡ true → a ≡ b
same_sign true true h = refl
same_sign false false h = refl
same_sign true false h = absurd cc
same_sign false true h = absurd cc

pub returns : goal.returns
returns c = λ is.
    let s = c.self.inside in
    let joined = c.self.invariant.1 in
    let read = read_entry (marked s.atoms s.roots) (places_in s.buffers) (queue_in s.buffers) s.len
    c.args.literal.atom c.place-place.result c.entry-entry.result joined c.if-place-self.false
    (let buffers = joined.within in let less = c.if-place-self.false in
    c.entry-entry.ensures ∙ get_or_default (queue_in s.buffers) c.place-place.result 0
    c.entry-entry.result (omega arith)) c.if-entry-at.false in
    sym (ap (λ (m : Knowledge). known (marks_of m) c.args.literal.atom) c.self.view_is) ∙ read
    ∙ ap Some (same_sign _ _ is)

pub place-place-requires : goal.place-place-requires
place-place-requires c =
    let s = c.self.inside in
    let joined = c.self.invariant.1 in
    let buffers = joined.places_room in
    let wide = length-marked s.atoms s.roots in
    let less = c.if-at-self.false in
    omega arith
