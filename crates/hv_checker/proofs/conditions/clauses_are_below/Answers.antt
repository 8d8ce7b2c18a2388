use Rattle.std.proofs.Common.{[], arith, refl, subst}
use Rattle.std.proofs.lemmas.List.{get_or_default}
use Rattle.hv_sets.specs.Cubes.{SpeakBelow}
use Rattle.hv_checker.proofs.conditions.clauses_are_below.Goals as goal

pub returns : goal.returns
returns c = (
  λ _ k d within.
      subst (SpeakBelow c.args.count) (get_or_default c.args.clauses.now k [] d within)
      (c.loop-place.invariant k (omega (
        arith,
        within,
        c.loop-place-test.false,
        c.len-place-end.ensures,
      ))),
  λ _. refl,
)
