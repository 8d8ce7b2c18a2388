use Rattle.std.proofs.Common.{[], arith, refl, subst}
use Rattle.std.proofs.lemmas.List.{get_or_default}
use Rattle.hv_task.specs.State.{AreBelow}
use Rattle.hv_checker.proofs.conditions.states_are_below.Goals as goal

pub returns : goal.returns
returns c = (
  λ _ k d within.
      subst (AreBelow c.args.count) (get_or_default c.args.states.now k [] d within)
      (c.loop-place.invariant k (omega (
        arith,
        within,
        c.loop-place-test.false,
        c.len-place-end.ensures.len,
      ))),
  λ _. refl,
)
