-- Sets of atoms by their tests.
use Rattle.std.specs.Prelude.{◌≡◌, ◌≤◌, ℕ, Bool, false, List}
use Rattle.hv_task.specs.State.{has_atom}

-- the set has no atom from this number on
abbrev pub IsBelow : ℕ → (ℕ → Bool) → Type 0
IsBelow atoms set = (p : ℕ) → atoms ≤ p → set p ≡ false

-- the state has just the atoms of the set
abbrev pub IsSetOf : (ℕ → Bool) → List Bool → Type 0
IsSetOf set state = (p : ℕ) → set p ≡ has_atom state p
