-- Answers that are computed.
use Rattle.std.proofs.Common.{◌≡◌, Result, Ok, Err}

-- an answer that is computed is one
module _ {A F : Type 0} (answer : Result A F) where
  pub one_value_of : (a b : A) → answer ≡ Ok a → answer ≡ Ok b → a ≡ b
  one_value_of a b is also = cc

  pub value_or_fault_of : (a : A) (f : F) → answer ≡ Ok a → answer ≡ Err f → ⊥
  value_or_fault_of a f is also = absurd (cc)

  pub one_fault_of : (f g : F) → answer ≡ Err f → answer ≡ Err g → f ≡ g
  one_fault_of f g is also = cc
