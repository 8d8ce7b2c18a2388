-- What it means to try one value.
use Rattle.std.specs.Prelude.{◌≡◌, ℕ, Bool, true, false, List, length, Some}
use Rattle.hv_task.specs.State.{has_atom}
use Rattle.hv_propagation.specs.Marks.{known, Agrees, KeepsKnown}

-- the value of the atom was marked, with all that follows; or it is refuted by the condition, and
-- the marks are as they were
pub record IsAssumed (Holds : List Bool → Type 0) (Settled : List ℕ → Type 0) (atom : ℕ)
    (value : Bool) (old new : List ℕ) (result : Bool) : Type 0 where
  pub size : length new ≡ length old
  pub grows : KeepsKnown old new
  pub settled : Settled new
  pub here : result ≡ true → known new atom ≡ Some value
  pub kept : result ≡ false → new ≡ old
  pub refuted : result ≡ false → (state : List Bool) → length state ≡ length old → Holds state
      → Agrees old state
      → has_atom state atom ≡ value → ⊥
