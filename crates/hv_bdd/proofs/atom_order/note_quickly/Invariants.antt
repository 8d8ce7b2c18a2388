use Rattle.std.proofs.Common.{◌≡◌, ◌≤◌, ◌+◌, ◌*◌, length}
use Rattle.hv_bytes.specs.Fields.{cut_fields}
use Rattle.hv_bdd.specs.Working.Noting.{AreNoted, named_behind}
use Rattle.hv_bdd.proofs.atom_order.note_quickly.Given as goal

abbrev pub invariant-loop-place : goal.invariant-loop-place
invariant-loop-place l = record {
  noted : AreNoted l.order l.places l.place;
  named : named_behind l.order l.place (cut_fields l.rest)
      ≡ named_behind l.fn.order l.fn.from (cut_fields l.fn.fields);
  size : length l.order ≡ length l.fn.order;
  fewer : length (cut_fields l.rest) ≤ length (cut_fields l.fn.fields);
  room : l.last * 8 ≤ length l.rest + l.place * 8;
  within : l.last ≤ length l.order;
}
