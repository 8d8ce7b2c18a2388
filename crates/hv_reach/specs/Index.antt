-- Which actions ask for an atom.
use Rattle.std.specs.Prelude.{◌≡◌, ◌+◌, ℕ, List, length, Some, slice_get}
use Rattle.std.specs.List.{All}
use Rattle.std.specs.Global.{Vec}
use Rattle.hv_task.specs.declared.action.Action.{Action}
use Rattle.hv_task.specs.Strips.{Strips, atoms}
use Rattle.hv_rows.specs.Rows.{IsInRow, RowsBelow}

-- in the row of each atom there is each action that has it in its precondition, and in the row past
-- the atoms there is each action without precondition
pub record IsActionIndex (atoms : ℕ) (actions : List Action) (rows : List (Vec ℕ)) : Type 0 where
  pub size : length rows ≡ atoms + 1
  pub below : RowsBelow (length actions) rows
  pub has : (k : ℕ) (a : Action) → slice_get actions k ≡ Some a → All (λ p. IsInRow rows p k) a.pre
  pub past : (k : ℕ) (a : Action) → slice_get actions k ≡ Some a → length a.pre ≡ 0
      → IsInRow rows atoms k

-- the rows are the index of the task's actions
abbrev pub IsTaskIndex : Strips → List (Vec ℕ) → Type 0
IsTaskIndex task rows = IsActionIndex (atoms task) task.actions rows

-- what the search for reached atoms goes by, as contracts see it: the index, and of how many
-- actions it keeps how far it came
pub record SearchRows : Type 0 where
  pub rows : List (Vec ℕ)
  pub actions : ℕ

-- it is that of the task
abbrev pub AreSearchRowsOf : Strips → SearchRows → Type 0
AreSearchRowsOf task kept = IsTaskIndex task kept.rows × (kept.actions ≡ length task.actions)
