-- How the search for reached atoms goes: each action waits for one atom of its precondition.
use Rattle.std.specs.Prelude.{◌≡◌, ◌<◌, ◌≤◌, ◌+◌, ◌⊎◌, ℕ, suc, Bool, true, false, List, [], ◌∷◌}
use Rattle.std.specs.Prelude.{length, Some, slice_get, slice_index}
use Rattle.std.specs.List.{Contains}
use Rattle.hv_task.specs.declared.action.Action.{Action}
use Rattle.hv_task.specs.State.{AreBelow, has_atom}
use Rattle.hv_reach.specs.Working.Index.{IsInRest}
use Rattle.hv_reach.specs.Reached.{AreIn, IsWithin}

-- how many atoms are not in the state
abbrev pub missing : List Bool → ℕ
missing [] = 0
missing (true ∷ state) = missing state
missing (false ∷ state) = suc (missing state)

-- every set in which this holds, and that has the old state, has the new one
abbrev pub GrowsWithin : ((ℕ → Bool) → Type 0) → List Bool → List Bool → Type 0
GrowsWithin Given old new = (set : ℕ → Bool) → Given set → IsWithin old set → IsWithin new set

-- the state grew, and what came to it is in the queue
pub record GrowsQueued (old : List Bool) (queue : List ℕ)
    (new : List Bool) (more : List ℕ) : Type 0 where
  pub size : length new ≡ length old
  pub below : AreBelow (length old) queue → AreBelow (length old) more
  pub grows : (p : ℕ) → has_atom old p ≡ true → has_atom new p ≡ true
  pub queued : (p : ℕ) → Contains queue p → Contains more p
  pub fresh : (p : ℕ) → has_atom new p ≡ true → (has_atom old p ≡ true) ⊎ Contains more p
  pub work : missing new + length more ≡ missing old + length queue

-- the action's precondition is held up to this place, and if that is all of it, its add set is held
pub record IsPassed (held : List Bool) (a : Action) (place : ℕ) : Type 0 where
  pub upto : place ≤ length a.pre
  pub front : (i : ℕ) → i < place → has_atom held (slice_index a.pre i) ≡ true
  pub done : place ≡ length a.pre → 0 < place → AreIn (has_atom held) a.add

-- the action waits for the atom at this place of its precondition, which isn't held or is still in
-- the queue; or its add set is held
abbrev pub IsActionSettled : List Bool → List ℕ → Action → ℕ → Type 0
IsActionSettled held queue a place =
    ((place < length a.pre)
    × (has_atom held (slice_index a.pre place) ≡ true → Contains queue (slice_index a.pre place)))
    ⊎ AreIn (has_atom held) a.add

-- what the search keeps
pub record IsKeptSearch (actions : List Action) (held : List Bool)
    (queue passed : List ℕ) : Type 0 where
  pub size : length passed ≡ length actions
  pub below : AreBelow (length held) queue
  pub each : (k : ℕ) (a : Action) → slice_get actions k ≡ Some a
      → IsPassed held a (slice_index passed k)

-- each action is settled
abbrev pub AreActionsSettled : List Action → List Bool → List ℕ → List ℕ → Type 0
AreActionsSettled actions held queue passed =
    (k : ℕ) (a : Action) → slice_get actions k ≡ Some a
    → IsActionSettled held queue a (slice_index passed k)

-- each action is settled or left in the list
abbrev pub AreActionsSettledBut : List ℕ → ℕ → List Action → List Bool → List ℕ → List ℕ → Type 0
AreActionsSettledBut numbers from actions held queue passed =
    (k : ℕ) (a : Action) → slice_get actions k ≡ Some a
    → IsActionSettled held queue a (slice_index passed k) ⊎ IsInRest numbers from k
