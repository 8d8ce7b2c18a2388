use Rattle.std.proofs.Common.{◌≡◌, ◌+◌, ◌*◌, ◌<◌, ℕ, length, ◌++◌, ◌∷◌, [], ◌∙◌, List, None, sym, subst}
use Rattle.std.proofs.Common.{ap, arith}
use Rattle.std.specs.Prelude.{slice_set}
use mir.Val.{bool_byte}
use Rattle.hv_sets.specs.declared.literal.Literal.{Literal}
use Rattle.hv_propagation.specs.Marks.{known}
use Rattle.hv_propagation.specs.Working.Buffers.{places_in, queue_in}
use Rattle.hv_propagation.specs.Working.Trail.{AreJoined, trail_of}
use Rattle.hv_propagation.specs.Trail.{Knowledge, marked, marks_of}
use Rattle.hv_propagation.proofs.Trailed.{joined_more, room_left, entry_below, length-marked}
use Rattle.hv_propagation.proofs.Trailed.{literal_is, trail_pushed}
use Rattle.hv_propagation.proofs.trail.Assignment.write.Goals as goal

-- where nothing is known of an atom, there is room for its literal
room_for : (atoms len atom : ℕ) (roots : List Literal) (places queue : List ℕ) (k : Knowledge)
    → record { roots = marked atoms roots; trail = trail_of queue len } ≡ k
    → AreJoined (marked atoms roots) places queue len → atom < length k.roots
    → known (marks_of k) atom ≡ None → len < atoms
room_for atoms len atom roots places queue k view joined less none =
    let size = ap (λ (k : Knowledge). length k.roots) view in
    let wide = length-marked atoms roots in
    let room = room_left (marked atoms roots) places queue len atom joined (omega arith)
    (ap (λ (k : Knowledge). known (marks_of k) atom) view ∙ none) in
    omega arith

pub overflow_cast-self-inside : goal.overflow_cast-self-inside
overflow_cast-self-inside c =
    let s = c.self.inside in
    let few = c.self.invariant.0 in
    let room = room_for s.atoms s.len c.args.literal.atom s.roots (places_in s.buffers)
    (queue_in s.buffers) _ c.self.view_is c.self.invariant.1 c.requires.atom c.requires.unknown in
    omega arith

pub set_entry-requires : goal.set_entry-requires
set_entry-requires c =
    let s = c.self.inside in
    let wide = length-marked s.atoms s.roots in
    let joined = c.self.invariant.1 in
    let has = joined.queue_room in
    let same = ap length c.set_place.ensures.queue in
    let room = room_for s.atoms s.len c.args.literal.atom s.roots (places_in s.buffers)
    (queue_in s.buffers) _ c.self.view_is joined c.requires.atom c.requires.unknown in
    omega arith

pub invariant_of-self : goal.invariant_of-self
invariant_of-self c =
    let s = c.self.inside in
    let roots = marked s.atoms s.roots in
    let entry = c.args.literal.atom * 2 + bool_byte c.args.literal.positive in
    let atoms = ap (λ (k : Knowledge). length k.roots) c.self.view_is in
    let wide = length-marked s.atoms s.roots in
    let less = c.requires.atom in
    let places : places_in c.set_entry.new.self
    ≡ slice_set (places_in s.buffers) c.args.literal.atom s.len =
    c.set_entry.ensures.places ∙ c.set_place.ensures.places in
    let queue : queue_in c.set_entry.new.self ≡ slice_set (queue_in s.buffers) s.len entry =
    c.set_entry.ensures.queue ∙ ap (λ row. slice_set row s.len entry) c.set_place.ensures.queue in (
      c.self.invariant.0,
      subst (λ row. AreJoined roots row (queue_in c.set_entry.new.self) (s.len + 1)) (sym places)
          (subst (λ row. AreJoined roots (slice_set (places_in s.buffers) c.args.literal.atom s.len)
          row
          (s.len + 1)) (sym queue)
          (joined_more roots (places_in s.buffers) (queue_in s.buffers) s.len c.args.literal.atom
          entry
          c.self.invariant.1 (omega arith)
          (ap (λ (k : Knowledge). known (marks_of k) c.args.literal.atom) c.self.view_is
          ∙ c.requires.unknown)
          (ap (λ (l : Literal). l.atom) (literal_is c.args.literal)))),
    )

pub returns : goal.returns
returns c =
    let s = c.self.inside in
    let entry = c.args.literal.atom * 2 + bool_byte c.args.literal.positive in
    let wide = length-marked s.atoms s.roots in
    let joined = c.self.invariant.1 in
    let has = joined.queue_room in
    let room = room_for s.atoms s.len c.args.literal.atom s.roots (places_in s.buffers)
    (queue_in s.buffers) _ c.self.view_is joined c.requires.atom c.requires.unknown in
    let queue : queue_in c.set_entry.new.self ≡ slice_set (queue_in s.buffers) s.len entry =
    c.set_entry.ensures.queue ∙ ap (λ row. slice_set row s.len entry) c.set_place.ensures.queue in
    ap (λ (ls : List Literal). let k : Knowledge = record
    { roots = (marked s.atoms s.roots); trail = ls } in k)
    (ap (λ row. trail_of row (s.len + 1)) queue
    ∙ (trail_pushed (queue_in s.buffers) s.len entry (omega arith)
    ∙ ap (λ (l : Literal). trail_of (queue_in s.buffers) s.len ++ l ∷ [])
    (literal_is c.args.literal)))
    ∙ ap (λ (k : Knowledge). let m : Knowledge = record
    { roots = k.roots; trail = k.trail ++ c.args.literal ∷ [] } in m) c.self.view_is

pub overflow_mul-entry : goal.overflow_mul-entry
overflow_mul-entry c =
    let s = c.self.inside in
    let few = c.self.invariant.0 in
    let atoms = ap (λ (k : Knowledge). length k.roots) c.self.view_is in
    let wide = length-marked s.atoms s.roots in
    let less = c.requires.atom in
    omega arith

pub overflow_add-entry : goal.overflow_add-entry
overflow_add-entry c =
    let s = c.self.inside in
    let few = c.self.invariant.0 in
    let atoms = ap (λ (k : Knowledge). length k.roots) c.self.view_is in
    let wide = length-marked s.atoms s.roots in
    let less = c.requires.atom in
    omega (arith, entry_below c.args.literal.atom c.args.literal.positive (omega arith))

pub overflow_add-self : goal.overflow_add-self
overflow_add-self c =
    let s = c.self.inside in
    let few = c.self.invariant.0 in
    let room = room_for s.atoms s.len c.args.literal.atom s.roots (places_in s.buffers)
    (queue_in s.buffers) _ c.self.view_is c.self.invariant.1 c.requires.atom c.requires.unknown in
    omega arith
