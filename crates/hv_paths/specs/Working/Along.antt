-- Working definitions beside those of `Along`: for private contracts and proofs.
use Rattle.std.specs.Prelude.{◌≡◌, Bool, true, false, List, [], ◌∷◌}
use Rattle.hv_sets.specs.declared.literal.Literal.{Literal}

-- the next cube is taken, and the rest is left; or no cube was left
abbrev pub TakesNext : Bool → List Literal → List (List Literal) → List (List Literal) → Type 0
TakesNext true cube before after = before ≡ cube ∷ after
TakesNext false cube before after = (before ≡ []) × (after ≡ [])
