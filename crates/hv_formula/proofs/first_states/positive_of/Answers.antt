use Rattle.std.proofs.Common.{arith, subst}
use Rattle.hv_formula.specs.Positive.{ArePositive}
use Rattle.hv_formula.proofs.first_states.positive_of.Goals as goal

pub returns : goal.returns
returns c =
    subst (λ n. ArePositive c.args.clauses.now n c.loop-place.places.items)
    (omega (arith, c.loop-place-test.false, c.loop-place.auto.place-end, c.len-place-end.ensures))
    c.loop-place.invariant
