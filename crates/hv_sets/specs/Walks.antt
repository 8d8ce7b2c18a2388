-- Walks: a set, or its complement, as a union of cubes that come one after the other.
use Rattle.std.specs.Prelude.{◌≡◌, ℕ, Bool, true, false, List, [], ◌∷◌, length, Option, None, Some}
use Rattle.std.specs.Prelude.{⊤}
use Rattle.std.specs.List.{list_any}
use Rattle.hv_sets.specs.declared.cursor.Cursor.{Cursor}
use Rattle.hv_sets.specs.declared.cursor.Step.{Step}
use Rattle.hv_sets.specs.declared.cursor.Step.TheVariants as T
use Rattle.hv_sets.specs.declared.literal.Literal.{Literal}
use Rattle.hv_sets.specs.Cubes.{SpeakBelow}
use Rattle.hv_sets.specs.Truth.{in_cube}

-- the state is in the cube of a step; a step without a cube holds no state
abbrev pub in_step : Option (List Literal) → List Bool → Bool
in_step None state = false
in_step (Some cube) state = in_cube cube state

-- the state is in the cube of some step
abbrev pub in_steps : List (Option (List Literal)) → List Bool → Bool
in_steps steps state = list_any (λ step. in_step step state) steps

-- the state is in some of the cubes
abbrev pub in_cubes : List (List Literal) → List Bool → Bool
in_cubes cubes state = list_any (λ cube. in_cube cube state) cubes

-- a cursor that no walk has moved
abbrev pub IsNew : Cursor → Type 0
IsNew cursor = (cursor.place ≡ 0) × (cursor.path.items ≡ [])

-- what a call that takes the next step of a walk answers: that step, with its cube if it has one,
-- and the rest is left; or that no step was left
abbrev pub TakesStep : Step → List Literal → List (Option (List Literal))
    → List (Option (List Literal)) → Type 0
TakesStep T.Cube cube before after = before ≡ Some cube ∷ after
TakesStep T.Void cube before after = before ≡ None ∷ after
TakesStep T.End cube before after = (before ≡ []) × (after ≡ [])

-- the same for a walk in which each step has a cube
abbrev pub TakesCube : Step → List Literal → List (List Literal) → List (List Literal) → Type 0
TakesCube T.Cube cube before after = before ≡ cube ∷ after
TakesCube T.Void cube before after = ⊥
TakesCube T.End cube before after = (before ≡ []) × (after ≡ [])

-- a state of a task with so many atoms
abbrev pub IsStateOf : ℕ → List Bool → Type 0
IsStateOf atoms state = length state ≡ atoms

-- a state of the cube, in the set or outside it
pub record IsAmong (atoms : ℕ) (has : List Bool → Bool) (cube : List Literal) (inside : Bool)
    (found : List Bool) : Type 0 where
  pub of_task : IsStateOf atoms found
  pub of_cube : in_cube cube found ≡ true
  pub of_set : has found ≡ inside

-- if a step has a cube, that speaks of atoms below this number alone
abbrev pub StepSpeaksBelow : ℕ → Step → List Literal → Type 0
StepSpeaksBelow atoms T.Cube cube = SpeakBelow atoms cube
StepSpeaksBelow atoms step cube = ⊤

-- some state of a task with so many atoms is in the cube and in the set, and this state is one; or
-- there is none
abbrev pub Meets : Bool → ℕ → (List Bool → Bool) → List Literal → List Bool → Type 0
Meets true atoms has cube found = IsAmong atoms has cube true found
Meets false atoms has cube found =
    (state : List Bool) → IsStateOf atoms state → in_cube cube state ≡ true → has state ≡ false

-- each state of a task with so many atoms that is in the cube is in the set; or this state is in
-- the cube and outside the set
abbrev pub Covers : Bool → ℕ → (List Bool → Bool) → List Literal → List Bool → Type 0
Covers true atoms has cube found =
    (state : List Bool) → IsStateOf atoms state → in_cube cube state ≡ true → has state ≡ true
Covers false atoms has cube found = IsAmong atoms has cube false found
