use Rattle.std.proofs.Common.{◌≡◌, ◌<◌, ◌∙◌, Bool, false, Option, None, Some, length, sym, ap}
use Rattle.std.proofs.Common.{arith, inl, inr}
use Rattle.std.proofs.lemmas.Bool.{cases_lt}
use Rattle.std.proofs.lemmas.List.{get_or-set_same, get_or-set_other, length-set}
use Rattle.std.specs.Prelude.{unwrap_or}
use Rattle.hv_task.specs.State.{has_atom}
use Rattle.hv_task.proofs.Places.{same_state}
use Rattle.hv_propagation.specs.Marks.{filled, or_else}
use Rattle.hv_propagation.specs.Trail.{marks_of}
use Rattle.hv_propagation.proofs.Trailed.{length-marks}
use Rattle.hv_propagation.proofs.Marked.{has_atom-filled, length-filled}
use Rattle.hv_propagation.proofs.trail.Assignment.fill.Goals as goal

value_is : (value : Bool) (o : Option Bool) (found : Bool) → found ≡ unwrap_or o value
    → found ≡ or_else o value
value_is value None found e = e
value_is value (Some v) found e = e

pub loop-atom-preserved : goal.loop-atom-preserved
loop-atom-preserved c =
    let here = c.loop-atom.invariant.size in
    let wide = length-marks c.args.self.now in
    let old = c.requires in
    let less = c.loop-atom-test.true in
    let within : c.loop-atom.atom < length (marks_of c.args.self.now) = omega arith in
    record {
      size = ap length c.set.ensures ∙ (length-set c.loop-atom.state c.loop-atom.atom
          c.unwrap_or.result ∙ here);
      done = λ p h.
          elim (cases_lt p c.loop-atom.atom) [
            | inl before ↦
                ap (λ s. has_atom s p) c.set.ensures
                ∙ (get_or-set_other c.loop-atom.state c.loop-atom.atom p c.unwrap_or.result false
                (λ e. omega arith)
                ∙ c.loop-atom.invariant.done p before)
            | inr upto ↦
                let at : p ≡ c.loop-atom.atom = omega arith in
                ap (λ s. has_atom s p) c.set.ensures
                ∙ (ap (has_atom _) at
                ∙ (get_or-set_same c.loop-atom.state c.loop-atom.atom c.unwrap_or.result false
                (omega arith)
                ∙ (value_is c.args.value c.read.result c.unwrap_or.result c.unwrap_or.ensures
                ∙ (ap (λ o. or_else o c.args.value) c.read.ensures
                ∙ (sym (has_atom-filled c.args.value (marks_of c.args.self.now) c.loop-atom.atom
                within)
                ∙ ap (has_atom (filled c.args.value (marks_of c.args.self.now))) (sym at))))))
          ];
    }

pub returns : goal.returns
returns c =
    let size = length-filled c.args.value (marks_of c.args.self.now) in
    let here = c.loop-atom.invariant.size in
    let wide = length-marks c.args.self.now in
    same_state c.loop-atom.state (filled c.args.value (marks_of c.args.self.now))
    (here ∙ sym (size ∙ wide)) (λ p h. c.loop-atom.invariant.done p (omega arith))
