-- What a fault leaves out.
use Rattle.std.proofs.Common.{Ok, Err}
use Rattle.std.specs.Prelude.{IfOk, IsErrAnd, Result}

-- where there is a fault there is no value
pub no_value : {A E : Type 0} (r : Result A E) (Q : E → Type 0) (P : A → Type 0) → IsErrAnd r Q
    → IfOk r P
no_value (Ok a) Q P is = absurd is
no_value (Err e) Q P is = tt
