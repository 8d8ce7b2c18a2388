use Rattle.std.proofs.Common.{◌≡◌, take}
use Rattle.std.specs.List.{flat_map}
use Rattle.hv_lines.specs.Spelling.{clause_fields}
use Rattle.hv_proof_text.specs.Working.Writing.{KeepsFronts, with_fields}
use Rattle.hv_proof_text.proofs.write.push_clauses.Given as goal

abbrev pub invariant-loop-place : goal.invariant-loop-place
invariant-loop-place l = record {
  same : l.text ≡ with_fields l.fn.text (flat_map clause_fields (take l.place l.clauses));
  keeps : KeepsFronts l.fn.text l.text;
}
