use Rattle.std.proofs.Common.{◌≡◌, take, map}
use Rattle.hv_lines.specs.Spelling.{literal_field}
use Rattle.hv_proof_text.specs.Working.Writing.{KeepsFronts, with_fields}
use Rattle.hv_proof_text.proofs.write.push_clause.Given as goal

abbrev pub invariant-loop-literal : goal.invariant-loop-literal
invariant-loop-literal l = record {
  same : l.text ≡ with_fields l.fn.text (map literal_field (take l.literal-index l.clause));
  keeps : KeepsFronts l.fn.text l.text;
}
