-- Sets of atoms as lists that rise.
use Rattle.std.specs.Prelude.{◌≡◌, ◌⊎◌, ◌↔◌, ◌==◌, ℕ, Bool, List, length, filter}
use Rattle.std.specs.List.{Contains, list_any, range_with_len}
use Rattle.std.specs.List.Sorted.{IsStrictlyIncreasing}
use Rattle.hv_task.specs.State.{has_atom}
use Rattle.hv_task.specs.Atoms.{Lists}

-- the new list is the old one with this atom put in: it rises, and it has the atoms of the old one
-- and this atom
pub record Inserts (old : List ℕ) (atom : ℕ) (new : List ℕ) : Type 0 where
  pub rises : IsStrictlyIncreasing new
  pub has : (a : ℕ) → Contains new a ↔ (Contains old a ⊎ (a ≡ atom))

-- the list is that of the atoms that the state holds, rising
abbrev pub IsListOf : List Bool → List ℕ → Type 0
IsListOf state held = Lists (has_atom state) (length state) held

-- the atoms, of so many, that are in the list: each once, rising
abbrev pub set_of : ℕ → List ℕ → List ℕ
set_of atoms listed = filter (λ atom. list_any (λ n. n == atom) listed) (range_with_len 0 atoms)
