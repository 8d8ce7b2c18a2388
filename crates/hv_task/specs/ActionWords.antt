-- Actions as rows: each of their lists as the state that holds its atoms alone.
use Rattle.std.specs.Prelude.{◌≡◌, ℕ, length}
use Rattle.hv_task.specs.State.{state_of}
use Rattle.hv_task.specs.declared.action.Action.{Action}
use Rattle.hv_task.specs.declared.action_words.ActionWords.{ActionWords}

-- the rows are states of a task with so many atoms
pub record HaveAtoms (atoms : ℕ) (rows : ActionWords) : Type 0 where
  pub pre : length rows.pre ≡ atoms
  pub add : length rows.add ≡ atoms
  pub del : length rows.del ≡ atoms

-- the rows are those of this action, in a task with so many atoms
pub record AreRowsOf (atoms : ℕ) (action : Action) (rows : ActionWords) : Type 0 where
  pub pre : rows.pre ≡ state_of atoms action.pre
  pub add : rows.add ≡ state_of atoms action.add
  pub del : rows.del ≡ state_of atoms action.del
