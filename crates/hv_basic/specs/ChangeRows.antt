-- The actions of a task in rows, by atoms that they change.
use Rattle.std.specs.Prelude.{◌≡◌, ℕ, Bool, true, false, List, Some, slice_get}
use Rattle.std.specs.Global.{Vec}
use Rattle.std.specs.List.{Contains}
use Rattle.hv_task.specs.declared.action.Action.{Action}
use Rattle.hv_task.specs.Strips.{Strips}
use Rattle.hv_rows.specs.Rows.{in_row}
use Rattle.hv_basic.specs.declared.change_rows.ChangeRows.{ChangeRows}

-- the atoms that the action adds (true), or deletes (false)
abbrev pub changed_to : Bool → Action → List ℕ
changed_to true action = action.add
changed_to false action = action.del

-- there is a row of this place, and the number is in it
abbrev pub StandsInRow : List (Vec ℕ) → ℕ → ℕ → Type 0
StandsInRow rows place number = in_row rows number place ≡ true

-- each action is in the row of each atom that it adds (true), or deletes (false)
abbrev pub AreRowsTo : Bool → Strips → List (Vec ℕ) → Type 0
AreRowsTo sign task rows =
    (number : ℕ) (action : Action) (atom : ℕ) → slice_get task.actions number ≡ Some action
    → Contains (changed_to sign action) atom → StandsInRow rows atom number

-- each action is in the rows of the atoms that it adds, and in those of the atoms that it deletes
pub record AreChangeRows (task : Strips) (rows : ChangeRows) : Type 0 where
  pub adds : AreRowsTo true task rows.adds.items
  pub deletes : AreRowsTo false task rows.deletes.items
