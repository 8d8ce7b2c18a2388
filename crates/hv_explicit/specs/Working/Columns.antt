-- The states that hold an atom, as flags.
use Rattle.std.specs.Prelude.{◌≡◌, ◌<◌, ℕ, Bool, true, List, [], length, slice_index}
use Rattle.std.specs.Prelude.{slice_index_or}
use Rattle.hv_task.specs.State.{has_atom}

-- the flag of the place is set under the atom
abbrev pub HasFlag : List ℕ → List (List Bool) → ℕ → ℕ → Type 0
HasFlag keys flags atom place =
    (k : ℕ) × (k < length keys) × (slice_index keys k ≡ atom)
    × (has_atom (slice_index_or flags k []) place ≡ true)
