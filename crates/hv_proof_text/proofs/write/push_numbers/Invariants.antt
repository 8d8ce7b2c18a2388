use Rattle.std.proofs.Common.{◌≡◌, take, map, decimal}
use Rattle.hv_proof_text.specs.Working.Writing.{KeepsFronts, with_fields}
use Rattle.hv_proof_text.proofs.write.push_numbers.Given as goal

abbrev pub invariant-loop-number : goal.invariant-loop-number
invariant-loop-number l = record {
  same : l.text ≡ with_fields l.fn.text (map decimal (take l.number-index l.numbers));
  keeps : KeepsFronts l.fn.text l.text;
}
