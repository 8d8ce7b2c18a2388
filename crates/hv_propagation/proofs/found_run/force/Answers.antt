use Rattle.std.proofs.Common.{◌≡◌, ◌∙◌, ◌<◌, ◌/◌, ℕ, arith, get_or, length, refl, sym}
use Rattle.hv_propagation.specs.Trail.{marked}
use Rattle.hv_propagation.proofs.FoundRuns.{force_room, forced_before, forced_found, forced_new}
use Rattle.hv_propagation.proofs.FoundRuns.{forced_out, none_other, none_past}
use Rattle.hv_propagation.proofs.Trailed.{length-marked}
use Rattle.hv_propagation.proofs.found_run.force.Goals as goal
use Rattle.hv_propagation.proofs.found_run.force.Goals.{
  else-place-len,
  then-place-len+else-found-entry+else-found-atom,
}

pub returns-then-found-entry : goal.returns-then-found-entry
returns-then-found-entry c =
    let base = marked c.args.atoms c.args.roots.now in
    let wide = length-marked c.args.atoms c.args.roots.now in
    let low = c.requires.atom in
    forced_found c.args.entry base c.args.places.now c.args.queue.now c.args.len
    (get_or c.args.places.now (c.args.entry / 2) 0) (omega arith)
    c.requires.joined refl _ c.if-place-len.true refl c.if-found-entry.true

pub bounds-places-atom : goal.bounds-places-atom
bounds-places-atom c =
    let wide = length-marked c.args.atoms c.args.roots.now in
    let low = c.requires.atom in
    let rows = c.requires.joined.places_room in
    omega arith

pub returns-then-found-atom : goal.returns-then-found-atom
returns-then-found-atom c =
    let base = marked c.args.atoms c.args.roots.now in
    let wide = length-marked c.args.atoms c.args.roots.now in
    let low = c.requires.atom in
    forced_out c.args.entry base c.args.places.now c.args.queue.now c.args.len
    (get_or c.args.places.now (c.args.entry / 2) 0) (omega arith)
    c.requires.joined refl _ c.if-place-len.true refl c.if-found-entry.false c.if-found-atom.true

pub returns-in-Some : goal.returns-in-Some
returns-in-Some c =
    let entry = c.args.entry in
    let base = marked c.args.atoms c.args.roots.now in
    let wide = length-marked c.args.atoms c.args.roots.now in
    let low = c.requires.atom in
    let within : entry / 2 < length base = omega arith in
    let places = c.args.places.now in
    let queue = c.args.queue.now in
    let len = c.args.len in
    let place = get_or places (entry / 2) 0 in
    let joined = c.requires.joined in
    forced_before entry base places queue len place within joined refl
    (elim c.if-place-len.branch [
      | then-place-len+else-found-entry+else-found-atom w ↦ none_other entry base places queue len
          place within joined refl _ w.if-place-len.true refl w.if-found-atom.false
      | else-place-len w ↦ none_past entry base places queue len place within joined refl
          w.if-place-len.false
    ])
    c.in-Some.value (sym c.in-Some.is ∙ c.read.ensures)

-- where the roots say nothing either, nothing on the trail is of its atom
unseen : (c : goal.In-None) → (k : ℕ) → k < c.args.len
    → get_or c.args.queue.now k 0 / 2 ≡ c.args.entry / 2 → ⊥
unseen c =
    let entry = c.args.entry in
    let base = marked c.args.atoms c.args.roots.now in
    let wide = length-marked c.args.atoms c.args.roots.now in
    let low = c.requires.atom in
    let within : entry / 2 < length base = omega arith in
    let places = c.args.places.now in
    let queue = c.args.queue.now in
    let len = c.args.len in
    let place = get_or places (entry / 2) 0 in
    let joined = c.requires.joined in
    elim c.if-place-len.branch [
      | then-place-len+else-found-entry+else-found-atom w ↦ none_other entry base places queue len
          place within joined refl _ w.if-place-len.true refl w.if-found-atom.false
      | else-place-len w ↦ none_past entry base places queue len place within joined refl
          w.if-place-len.false
    ]

-- so there is room for it
has_room : (c : goal.In-None) → c.args.len < length (marked c.args.atoms c.args.roots.now)
has_room c =
    let wide = length-marked c.args.atoms c.args.roots.now in
    let low = c.requires.atom in
    force_room c.args.entry (marked c.args.atoms c.args.roots.now) c.args.places.now
    c.args.queue.now c.args.len (get_or c.args.places.now (c.args.entry / 2) 0) (omega arith)
    c.requires.joined refl (unseen c) (sym c.in-None.is ∙ c.read.ensures)

pub overflow_cast-places : goal.overflow_cast-places
overflow_cast-places c =
    let wide = length-marked c.args.atoms c.args.roots.now in
    let few = c.requires.few in
    let room = has_room c in
    omega arith

pub bounds-places-atom-in-None : goal.bounds-places-atom-in-None
bounds-places-atom-in-None c =
    let wide = length-marked c.args.atoms c.args.roots.now in
    let low = c.requires.atom in
    let rows = c.requires.joined.places_room in
    omega arith

pub bounds-queue-len : goal.bounds-queue-len
bounds-queue-len c =
    let rows = c.requires.joined.queue_room in
    let room = has_room c in
    omega arith

pub returns-in-None : goal.returns-in-None
returns-in-None c =
    let wide = length-marked c.args.atoms c.args.roots.now in
    let low = c.requires.atom in
    forced_new c.args.entry (marked c.args.atoms c.args.roots.now) c.args.places.now
    c.args.queue.now c.args.len (get_or c.args.places.now (c.args.entry / 2) 0) (omega arith)
    c.requires.joined refl (unseen c) (sym c.in-None.is ∙ c.read.ensures)
