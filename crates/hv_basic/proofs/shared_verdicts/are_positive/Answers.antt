use Rattle.std.proofs.Common.{◌≡◌, arith, subst, true}
use Rattle.hv_basic.specs.declared.signed_sets.Asking.{Asking}
use Rattle.hv_basic.proofs.shared_verdicts.are_positive.Goals as goal

pub returns : goal.returns
returns c = λ _ asking has.
    subst (λ (a : Asking). a.positive ≡ true) has.2
    (c.loop-asking.invariant has.0 asking (omega (arith, has.1)))
