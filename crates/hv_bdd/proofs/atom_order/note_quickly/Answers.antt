use Rattle.std.proofs.Common.{◌∙◌, ap, arith, length}
use Rattle.hv_bytes.specs.Fields.{cut_fields}
use Rattle.hv_bdd.specs.OrderLine.{named_atoms}
use Rattle.hv_bdd.proofs.Ranked.{behind_more, first_is}
use Rattle.hv_bdd.proofs.atom_order.note_quickly.Goals as goal

pub loop-place-preserved : goal.loop-place-preserved
loop-place-preserved c =
    let order = c.loop-place.order in
    let atom = c.in-Some.atom in
    let later = cut_fields c.in-Some.behind.now in
    let fields = c.in-Some.ensures.fields in
    let below = c.in-Some.ensures.number in
    let few = c.requires.few in
    let one = c.loop-place.invariant.size in
    let first = ap (named_atoms (length order)) fields
    ∙ first_is (length order) atom later (omega arith) (omega arith) in
    record {
      noted = c.note.ensures.noted;
      named = behind_more order c.note.new.order c.loop-place.place atom
          (cut_fields c.loop-place.rest.now) later c.note.ensures.size c.note.ensures.front first
          ∙ c.loop-place.invariant.named;
      size = c.note.ensures.size ∙ c.loop-place.invariant.size;
      fewer = let less = ap length fields in omega (arith, less, c.loop-place.invariant.fewer);
      room = let more = c.in-Some.ensures.rest in let room = c.loop-place.invariant.room in
          omega arith;
      within = let same = c.note.ensures.size in let within = c.loop-place.invariant.within in
          omega arith;
    }
