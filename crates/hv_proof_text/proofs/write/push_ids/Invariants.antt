use Rattle.std.proofs.Common.{◌≡◌, take, map, decimal}
use Rattle.hv_proof_text.specs.Working.Writing.{KeepsFronts, with_fields}
use Rattle.hv_proof_text.proofs.write.push_ids.Given as goal

abbrev pub invariant-loop-id : goal.invariant-loop-id
invariant-loop-id l = record {
  same : l.text ≡ with_fields l.fn.text (map decimal (take l.id-index l.ids));
  keeps : KeepsFronts l.fn.text l.text;
}
