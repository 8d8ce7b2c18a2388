-- Sets of atoms, however they are kept, read one atom after another.
use Rattle.std.specs.Prelude.{◌≡◌, ◌≤◌, ◌<◌, ◌↔◌, ℕ, Bool, true, false, not, ◌&&◌, ◌||◌, List}
use Rattle.std.specs.Prelude.{Option, MatchOption}
use Rattle.std.specs.List.{Contains}
use Rattle.std.specs.List.Sorted.{IsStrictlyIncreasing}
use Rattle.hv_task.specs.declared.action.Action.{Action}
use Rattle.hv_task.specs.State.{names_atom}

-- the least atom of the set from this number on, if there is one
abbrev pub IsNext : (ℕ → Bool) → ℕ → Option ℕ → Type 0
IsNext set from next =
    MatchOption next
    ((p : ℕ) → from ≤ p → set p ≡ false)
    (λ a. (from ≤ a) × (set a ≡ true) × ((p : ℕ) → from ≤ p → p < a → set p ≡ false))

-- the list has the atoms of the set that are below the bound, and rises
pub record Lists (set : ℕ → Bool) (bound : ℕ) (held : List ℕ) : Type 0 where
  pub rises : IsStrictlyIncreasing held
  pub has : (a : ℕ) → Contains held a ↔ ((a < bound) × (set a ≡ true))

-- the list has the atom, and the others don't
abbrev pub is_kept : List ℕ → List ℕ → ℕ → Bool
is_kept others held p = not (names_atom others p) && names_atom held p

-- the atom is in the result of an action in the state of these atoms: it is added, or it was there
-- and isn't deleted
abbrev pub is_after : Action → List ℕ → ℕ → Bool
is_after action held p = names_atom action.add p || is_kept action.del held p
