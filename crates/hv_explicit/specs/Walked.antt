-- A walk over listed states.
use Rattle.std.specs.Prelude.{◌≡◌, ◌<◌, ◌≤◌, ℕ, zero, suc, Bool, List, [], length, slice_index_or}
use Rattle.hv_task.specs.State.{state_of}
use Rattle.hv_sets.specs.declared.literal.Literal.{Literal}
use Rattle.hv_explicit.specs.ListedStates.{ListedStates, full_cube}

-- the cube of the state that was taken last, where so many were taken
abbrev pub path_at : ListedStates → ℕ → List Literal
path_at set zero = []
path_at set (suc place) = full_cube set.atoms (slice_index_or set.states place [])

-- the atoms of the state that was taken last, where so many were taken; none before the first
abbrev pub last_atoms : List (List ℕ) → ℕ → List ℕ
last_atoms states zero = []
last_atoms states (suc place) = slice_index_or states place []

-- so many states were taken, and the last of them is held; before the first none of the atoms is
pub record StandsAfter (set : ListedStates) (taken : ℕ) (state : List Bool) : Type 0 where
  pub few : taken ≤ length set.states
  pub size : length state ≡ set.atoms
  pub last : state ≡ state_of set.atoms (last_atoms set.states taken)
