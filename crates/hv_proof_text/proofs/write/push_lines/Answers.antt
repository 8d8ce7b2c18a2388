use Rattle.std.proofs.Common.{arith, reverse}
use Rattle.std.proofs.lemmas.List.{length-reverse}
use Rattle.hv_proof_text.proofs.Joined.{line_appended}
use Rattle.hv_proof_text.proofs.write.push_lines.Goals as goal

pub loop-place-preserved : goal.loop-place-preserved
loop-place-preserved c = record {
  same = line_appended (reverse c.args.table.now.lines) c.loop-place.place c.line.result.now
      c.args.out.now c.loop-place.out c.push_line.new.text c.push.new.text
      (omega (arith, length-reverse c.args.table.now.lines)) c.line.ensures
      c.loop-place.invariant.same c.in_ok-push_line.ensures.ok c.in_ok-push.ensures.ok;
  keeps = λ front begins. c.in_ok-push.ensures.keeps front
      (c.in_ok-push_line.ensures.keeps front (c.loop-place.invariant.keeps front begins));
}
