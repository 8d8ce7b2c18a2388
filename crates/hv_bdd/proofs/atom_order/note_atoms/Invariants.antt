use Rattle.std.proofs.Common.{◌≡◌, length}
use Rattle.hv_bytes.specs.Working.Fields.{fields_behind}
use Rattle.hv_bdd.specs.Working.Noting.{AreNoted, named_behind}
use Rattle.hv_bdd.proofs.atom_order.note_atoms.Given as goal

abbrev pub invariant-fields : goal.invariant-fields
invariant-fields l = record {
  noted : AreNoted l.order l.places l.place;
  named : named_behind l.order l.place (fields_behind l.rest (λ f. f.now))
      ≡ named_behind l.fn.order 0 (fields_behind l.fn.fields (λ f. f.now));
  size : length l.order ≡ length l.fn.order;
}

abbrev pub decreases-fields : goal.decreases-fields
decreases-fields l = length (fields_behind l.rest (λ f. f.now))
