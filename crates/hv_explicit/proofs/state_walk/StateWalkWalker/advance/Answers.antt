use Rattle.std.proofs.Common.{◌≡◌, ◌∙◌, [], arith, ap, get_or, length, refl, subst, sym}
use Rattle.hv_task.specs.State.{state_of}
use Rattle.hv_explicit.specs.ListedStates.{AreStates}
use Rattle.hv_explicit.specs.Walked.{last_atoms}
use Rattle.hv_explicit.proofs.Walked.{last_next, state_taken}
use Rattle.hv_explicit.proofs.state_walk.StateWalkWalker.advance.Goals as goal

pub stand_at-requires-clause-below : goal.stand_at-requires-clause-below
stand_at-requires-clause-below c =
    subst (λ n. AreStates n c.states-states.result.now) (sym c.requires.size)
    c.states-states.ensures.below

pub stand_at-requires-clause-is : goal.stand_at-requires-clause-is
stand_at-requires-clause-is c =
    let q = c.args.self.now in
    subst (λ n. q.state ≡ state_of n (last_atoms c.states-states.result.now q.taken))
    (sym c.requires.size)
    (subst (λ xs. q.state ≡ state_of q.set.now.atoms (last_atoms xs q.taken))
    (sym c.states-states.ensures.states) c.requires.last)

pub returns-clause-step : goal.returns-clause-step
returns-clause-step c = (
  state_taken c.args.self.now.set.now c.args.self.now.taken c.states-states.result.now
      (omega (arith, c.if-self-len.false, c.len.ensures)) c.states-states.ensures.states,
  record { old_room = omega arith; new_room = omega arith; same = refl },
)

pub returns-clause-stands : goal.returns-clause-stands
returns-clause-stands c =
    let q = c.args.self.now in
    let set = q.set.now in
    let states = c.states-states.result.now in
    record {
      few = omega (
        arith,
        c.if-self-len.false,
        c.len.ensures,
        ap length c.states-states.ensures.states,
      );
      size = c.stand_at.ensures.atoms ∙ c.requires.size;
      last = c.stand_at.ensures.held
          ∙ (ap (λ n. state_of n (get_or states q.taken [])) c.requires.size
          ∙ ap (state_of set.atoms)
          (ap (λ xs. get_or xs q.taken []) c.states-states.ensures.states
          ∙ sym (last_next set.states q.taken)));
    }
