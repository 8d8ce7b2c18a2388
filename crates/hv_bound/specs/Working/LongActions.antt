-- Steps of a plan by the rows of actions that are kept.
use Rattle.std.specs.Prelude.{◌≡◌, ◌<◌, ℕ, Bool, true, List, Some, length, slice_get}
use Rattle.std.specs.List.{All}
use Rattle.std.specs.Prelude.{slice_index_or}
use Rattle.hv_task.specs.declared.action.Action.{Action}
use Rattle.hv_task.specs.ActionWords.{AreRowsOf, HaveAtoms}
use Rattle.hv_task.specs.State.{applicable, successor}
use Rattle.hv_task.specs.Strips.{Strips, atoms}
use Rattle.hv_bound.specs.declared.long_actions.LongActions.{LongActions}
use Rattle.hv_bound.specs.declared.long_actions.NumberedRows.{NumberedRows}

-- the answer is whether the action is applicable, and where it is, the state becomes its successor
pub record IsStepOf (action : Action) (before after : List Bool) (taken : Bool) : Type 0 where
  pub applies : taken ≡ applicable action before
  pub moves : taken ≡ true → after ≡ successor action before

-- the same for the action of this number
abbrev pub IsStepTaken : Strips → ℕ → List Bool → List Bool → Bool → Type 0
IsStepTaken task number before after taken =
    (action : Action) → slice_get task.actions number ≡ Some action
    → IsStepOf action before after taken

-- the rows are those of the action of their number
pub record AreNumbered (task : Strips) (kept : NumberedRows) : Type 0 where
  pub sized : HaveAtoms (atoms task) kept.rows
  pub rows : (action : Action) → slice_get task.actions kept.number ≡ Some action
      → AreRowsOf (atoms task) action kept.rows

-- all rows that are kept are such ones
abbrev pub AreKeptWords : Strips → LongActions → Type 0
AreKeptWords task kept = All (AreNumbered task) kept.rows.items

-- the rows of the action of this number are at this place
pub record AreThere (number : ℕ) (kept : LongActions) (place : ℕ) : Type 0 where
  pub within : place < length kept.rows.items
  pub numbered : (other : NumberedRows)
      → (slice_index_or kept.rows.items place other).number ≡ number
