-- What an effect makes of a state, and a walk that compares it with a list.
use Rattle.std.specs.Prelude.{◌≡◌, ◌||◌, ◌&&◌, not, ◌<◌, ◌≤◌, ◌⊎◌, ℕ, Bool, List, length}
use Rattle.std.specs.Prelude.{slice_index}
use Rattle.hv_task.specs.State.{names_atom}
use Rattle.hv_explicit.specs.declared.results.Stand.{Stand}

-- the atom is added, or it was there and isn't deleted
abbrev pub made : List ℕ → List ℕ → List ℕ → ℕ → Bool
made add del held p = names_atom add p || (not (names_atom del p) && names_atom held p)

-- so many atoms of the list are less than the bound, and the others aren't
pub record Splits (list : List ℕ) (passed bound : ℕ) : Type 0 where
  pub within : passed ≤ length list
  pub below : (k : ℕ) → k < passed → slice_index list k < bound
  pub over : (k : ℕ) → passed ≤ k → k < length list → bound ≤ slice_index list k

-- a walk over all of these lists stands where the atoms below the bound are passed, and of these
-- the list has what the effect makes of the state
pub record IsMerged (list held add del : List ℕ) (stand : Stand) (bound : ℕ) : Type 0 where
  pub list_split : Splits list stand.listed bound
  pub held_split : Splits held stand.held bound
  pub add_split : Splits add stand.added bound
  pub del_split : Splits del stand.deleted bound
  pub same : (p : ℕ) → p < bound → made add del held p ≡ names_atom list p

-- it stands so for some bound
abbrev pub IsStand : List ℕ → List ℕ → List ℕ → List ℕ → Stand → Type 0
IsStand list held add del stand = (bound : ℕ) × IsMerged list held add del stand bound

-- the atom is the next one that the effect touches
pub record IsNextTouched (add del : List ℕ) (stand : Stand) (atom : ℕ) : Type 0 where
  pub one : ((stand.added < length add) × (slice_index add stand.added ≡ atom))
      ⊎ ((stand.deleted < length del) × (slice_index del stand.deleted ≡ atom))
  pub added : stand.added < length add → atom ≤ slice_index add stand.added
  pub deleted : stand.deleted < length del → atom ≤ slice_index del stand.deleted

-- the effect touches no atom any more
abbrev pub IsTouchedEnd : List ℕ → List ℕ → Stand → Type 0
IsTouchedEnd add del stand = (length add ≤ stand.added) × (length del ≤ stand.deleted)
