-- A node as a set of states, asked within a cube.
use Rattle.std.specs.Prelude.{◌≡◌, ℕ, Bool, true, false, List, [], ◌∷◌, Option, Some, not}
use Rattle.std.specs.Prelude.{slice_set}
use Rattle.hv_sets.specs.Truth.{in_cube}
use Rattle.hv_sets.specs.Walks.{IsAmong, IsStateOf}
use Rattle.hv_sets.specs.declared.literal.Literal.{Literal}

-- the marks with those of these literals
abbrev pub mark_literals : List Literal → List (Option Bool) → List (Option Bool)
mark_literals [] marks = marks
mark_literals (l ∷ ls) marks = mark_literals ls (slice_set marks l.atom (Some l.positive))

-- this state of the cube is in the set, or outside it; or there is none
abbrev pub Finds : Bool → Bool → ℕ → (List Bool → Bool) → List Literal → List Bool → Type 0
Finds inside true atoms has cube found = IsAmong atoms has cube inside found
Finds inside false atoms has cube found =
    (state : List Bool) → IsStateOf atoms state → in_cube cube state ≡ true → has state ≡ not inside
