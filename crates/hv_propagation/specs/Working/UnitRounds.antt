-- What single looks into clauses tell.
use Rattle.std.specs.Prelude.{◌≡◌, ◌⊎◌, ℕ, false, List, [], Some}
use Rattle.std.specs.List.{All, Contains}
use Rattle.hv_sets.specs.declared.literal.Literal.{Literal}
use Rattle.hv_propagation.specs.declared.unit_rounds.RoundsEnd.{RoundsEnd}
use Rattle.hv_propagation.specs.Units.{IsSettled, value_of, AreFalse}
use Rattle.hv_propagation.specs.Trail.{marked}
use Rattle.hv_propagation.specs.declared.unit_rounds.RoundsEnd.TheVariants as E

-- the clause has two different literals
abbrev pub HasTwo : List Literal → Type 0
HasTwo clause =
    (l : Literal) × (k : Literal) × Contains clause l × Contains clause k × (l ≡ k → ⊥)

-- what a look into a clause did to a cube: nothing, since the clause tells nothing more, or since
-- all its literals are false; or the one open literal was put in, since the others are false
abbrev pub StepTells : ℕ → List Literal → List Literal → List Literal → RoundsEnd → Type 0
StepTells atoms clause old new E.Settled = (new ≡ old) × IsSettled [] (marked atoms old) clause
StepTells atoms clause old new E.Broken = (new ≡ old) × AreFalse [] clause (marked atoms old)
StepTells atoms clause old new E.Open =
    (l : Literal) × Contains clause l
    × All (λ k. (k ≡ l) ⊎ (value_of [] (marked atoms old) k ≡ Some false)) clause
    × ((k : Literal) → Contains new k → Contains old k ⊎ (k ≡ l))
