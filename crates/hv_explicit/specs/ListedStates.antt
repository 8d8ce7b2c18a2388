-- Explicit sets, whose states are listed one by one.
use Rattle.std.specs.Prelude.{◌≡◌, ◌++◌, ℕ, zero, suc, Bool, false, List, [], ◌∷◌, Option, None}
use Rattle.std.specs.Prelude.{Some, length, map, slice_get}
use Rattle.std.specs.List.{All}
use Rattle.std.specs.List.Sorted.{IsStrictlyIncreasing}
use Rattle.hv_task.specs.State.{AreBelow, names_atom}
use Rattle.hv_sets.specs.Truth.{in_states}
use Rattle.hv_sets.specs.declared.literal.Literal.{Literal}

-- what an explicit set is: how many atoms the task has, and the listed states, each by the atoms
-- that it holds
pub record ListedStates : Type 0 where
  pub atoms : ℕ
  pub states : List (List ℕ)

-- the state is one of the listed ones
abbrev pub in_listing : ListedStates → List Bool → Bool
in_listing set state = in_states set.atoms set.states state

-- the cube of one state alone: a literal for each atom
abbrev pub full_cube : ℕ → List ℕ → List Literal
full_cube zero held = []
full_cube (suc atoms) held =
    full_cube atoms held ++ record { atom = atoms; positive = names_atom held atoms } ∷ []

-- the cubes of the listed states
abbrev pub full_cubes : ListedStates → List (List Literal)
full_cubes set = map (λ held. full_cube set.atoms held) set.states

-- the listed states are states of the task
abbrev pub AreStates : ℕ → List (List ℕ) → Type 0
AreStates atoms states = All (λ held. AreBelow atoms held) states

-- the lists of the states rise
abbrev pub AreRising : List (List ℕ) → Type 0
AreRising states = All IsStrictlyIncreasing states

-- A store is a list of explicit sets, by number.

-- the state is in the set, if there is one
abbrev pub in_found : Option ListedStates → List Bool → Bool
in_found None state = false
in_found (Some set) state = in_listing set state

-- the state is in the set of this number
abbrev pub in_set : List ListedStates → ℕ → List Bool → Bool
in_set sets number state = in_found (slice_get sets number) state

-- how many states the set lists, if there is one
abbrev pub count_found : Option ListedStates → ℕ
count_found None = 0
count_found (Some set) = length set.states

-- how many states the set of this number lists
abbrev pub states_listed : List ListedStates → ℕ → ℕ
states_listed sets number = count_found (slice_get sets number)

-- the sets are sets of states of a task with so many atoms
abbrev pub AreListsOver : List ListedStates → ℕ → Type 0
AreListsOver sets atoms = All (λ set. set.atoms ≡ atoms) sets
