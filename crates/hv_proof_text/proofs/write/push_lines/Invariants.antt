use Rattle.std.proofs.Common.{◌≡◌, ◌++◌, reverse, take}
use Rattle.hv_lines.specs.Spelling.{proof_text}
use Rattle.hv_proof_text.specs.Working.Writing.{KeepsFronts}
use Rattle.hv_proof_text.proofs.write.push_lines.Given as goal

abbrev pub invariant-loop-place : goal.invariant-loop-place
invariant-loop-place l = record {
  same : l.out ≡ l.fn.out ++ proof_text (take l.place (reverse l.table.lines));
  keeps : KeepsFronts l.fn.out l.out;
}
