-- The canonical text of a task.
use Rattle.std.specs.Prelude.{ℕ, ◌≤◌, List, [], ◌∷◌, ◌++◌, map, length}
use Rattle.std.specs.List.{All, flat_map}
use Rattle.hv_bytes.specs.LineCuts.{IsClean}
use Rattle.hv_task.specs.Strips.{Strips}
use Rattle.hv_task.specs.declared.action.Action.{Action}
use Rattle.hv_task_text.specs.declared.atom_lists.Item.TheVariants as I
use Rattle.hv_task_text.specs.Written.{WrittenAction, WrittenHead, text_lines}

-- a line with its LF
abbrev pub with_lf : List ℕ → List ℕ
with_lf line = line ++ 10 ∷ []

-- lines, each with its LF
abbrev pub bytes_of_lines : List (List ℕ) → List ℕ
bytes_of_lines lines = flat_map with_lf lines

-- the canonical form of an action: first the PRE lines, then the ADD lines, then the DEL lines,
-- each in the order of its set
abbrev pub entry_of : Action → WrittenAction
entry_of action = record {
  name = action.name;
  cost = action.cost;
  items = map (λ n. I.Pre n) action.pre
      ++ (map (λ n. I.Add n) action.add ++ map (λ n. I.Del n) action.del);
}

-- what the text says of a task before its actions
abbrev pub head_of : Strips → WrittenHead
head_of task = record { names = task.names; start = task.start; goal = task.goal }

-- the lines of the canonical text
abbrev pub canonical_lines : Strips → List (List ℕ)
canonical_lines task = text_lines (head_of task) (map entry_of task.actions)

-- the canonical text of the task
abbrev pub canonical_of : Strips → List ℕ
canonical_of task = bytes_of_lines (canonical_lines task)

-- a name that a line can hold
pub record IsWritableName (name : List ℕ) : Type 0 where
  pub clean : IsClean name
  pub short : length name ≤ 1024

-- the names of the task's atoms and actions can be read back
pub record HasWritableNames (task : Strips) : Type 0 where
  pub atoms : All IsWritableName task.names
  pub actions : All (λ (action : Action). IsWritableName action.name) task.actions
