use Rattle.std.proofs.Common.{◌∙◌, Some, ap, sym}
use Rattle.hv_lines.specs.Spelling.{state_fields}
use Rattle.hv_proof_text.proofs.Joined.{items_more}
use Rattle.hv_proof_text.proofs.write.push_states.Goals as goal

pub loop-place-preserved : goal.loop-place-preserved
loop-place-preserved c = record {
  same = items_more state_fields c.args.states.now c.loop-place.place c.slice.result.now
      c.args.text.now c.loop-place.text c.push_state.new.text
      (c.get.ensures.state ∙ ap Some (sym c.slice.ensures.atoms)) c.loop-place.invariant.same
      c.in_ok-push_state.ensures.ok;
  keeps = λ front begins. c.in_ok-push_state.ensures.keeps front
      (c.loop-place.invariant.keeps front begins);
}
