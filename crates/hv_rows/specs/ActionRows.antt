-- The actions of a task in rows, by atoms of their preconditions.
use Rattle.std.specs.Prelude.{◌≡◌, ◌+◌, ℕ, true, List, ◌∷◌, Some, length, slice_get}
use Rattle.std.specs.Global.{Vec}
use Rattle.std.specs.List.{list_any}
use Rattle.hv_task.specs.declared.action.Action.{Action}
use Rattle.hv_task.specs.Strips.{Strips, atoms}
use Rattle.hv_rows.specs.Rows.{RowsBelow, in_row}

-- there is a row for each atom, and one past them, of actions of the task; and each action is in
-- the last row or in that of an atom of its precondition
pub record AreActionRows (task : Strips) (rows : List (Vec ℕ)) : Type 0 where
  pub size : length rows ≡ atoms task + 1
  pub below : RowsBelow (length task.actions) rows
  pub each : (number : ℕ) (action : Action) → slice_get task.actions number ≡ Some action
      → list_any (in_row rows number) (atoms task ∷ action.pre) ≡ true
