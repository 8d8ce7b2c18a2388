-- Walks over cubes that have prefixes in common, and questions that are asked along them.
use Rattle.std.specs.Prelude.{◌≡◌, ◌≤◌, ◌+◌, ◌||◌, ℕ, Bool, true, false, List, [], ◌∷◌, length}
use Rattle.std.specs.Prelude.{take, Option, None, Some}
use Rattle.hv_sets.specs.declared.literal.Literal.{Literal}
use Rattle.hv_task.specs.State.{AreBelow, state_of}
use Rattle.hv_sets.specs.Cubes.{SpeakBelow}
use Rattle.hv_sets.specs.Truth.{in_cube, is_same}
use Rattle.hv_sets.specs.Walks.{IsStateOf, in_cubes}
use Rattle.hv_paths.specs.declared.walker.WalkStop.{WalkStop}
use Rattle.hv_paths.specs.declared.walker.WalkStop.TheVariants as P

-- so many literals at the front are the same in both cubes
pub record KeepsFront (kept : ℕ) (old new : List Literal) : Type 0 where
  pub old_room : kept ≤ length old
  pub new_room : kept ≤ length new
  pub same : take kept new ≡ take kept old

-- one cube was taken of those that were left: a state is in one of these exactly where it is in the
-- cube that was taken or in one of those that are left after it
pub record LeavesRest (cube : List Literal) (before after : List (List Literal)) : Type 0 where
  pub count : length before ≡ length after + 1
  pub states : (state : List Bool)
      → in_cubes before state ≡ (in_cube cube state || in_cubes after state)

-- what a walk answers: the next cube, of which so many literals at the front are those of the cube
-- before, and the rest is left; or that no cube was left
abbrev pub TakesPath : Option ℕ → List Literal → List Literal → List (List Literal)
    → List (List Literal) → Type 0
TakesPath (Some kept) old new before after =
    LeavesRest new before after × KeepsFront kept old new
TakesPath None old new before after = (before ≡ []) × (after ≡ [])

-- no state of a task with so many atoms that is in the cube is one of those that are looked for
abbrev pub IsBarren : ℕ → (List Bool → Bool) → List Literal → Type 0
IsBarren atoms wanted cube =
    (state : List Bool) → IsStateOf atoms state → in_cube cube state ≡ true → wanted state ≡ false

-- some state of a task with so many atoms is in one of the cubes and looked for, and this state is
-- one; or there is none
abbrev pub MeetsSome : Bool → ℕ → (List Bool → Bool) → List (List Literal) → List Bool → Type 0
MeetsSome true atoms wanted cubes found =
    IsStateOf atoms found × (in_cubes cubes found ≡ true) × (wanted found ≡ true)
MeetsSome false atoms wanted cubes found =
    (state : List Bool) → IsStateOf atoms state → in_cubes cubes state ≡ true
    → wanted state ≡ false

-- the cubes of the steps that have one
abbrev pub cubes_of : List (Option (List Literal)) → List (List Literal)
cubes_of [] = []
cubes_of (None ∷ steps) = cubes_of steps
cubes_of (Some cube ∷ steps) = cube ∷ cubes_of steps

-- of the states of a task with so many atoms the cube has this one alone
abbrev pub IsCubeOfOne : ℕ → List Literal → List Bool → Type 0
IsCubeOfOne atoms cube one =
    (state : List Bool) → IsStateOf atoms state → in_cube cube state ≡ is_same one state

-- where a walk stands, of which this is the cube: at its literals; or at the one state of it, which
-- holds just the atoms that are listed
abbrev pub IsStop : ℕ → List Literal → WalkStop → Type 0
IsStop atoms cube (P.Cube literals) = (literals.now ≡ cube) × SpeakBelow atoms literals.now
IsStop atoms cube (P.State held state) =
    AreBelow atoms held × IsStateOf atoms state.now
    × (state.now ≡ state_of atoms held) × IsCubeOfOne atoms cube state.now
