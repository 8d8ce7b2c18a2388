-- What the reader of a task text holds, and what its parts answer.
use Rattle.std.specs.Prelude.{◌≡◌, ℕ, List, [], Result, Ok, Err, cond, length, nat_le}
use Rattle.std.specs.List.{filter_map}
use Rattle.hv_task.specs.AtomList.{set_of}
use Rattle.hv_task.specs.Strips.{Strips}
use Rattle.hv_task_text.specs.Written.{add_of, del_of, pre_of}
use Rattle.hv_task_text.specs.declared.fault.TaskLimit.TheVariants as W
use Rattle.hv_task_text.specs.declared.fault.TaskRefusal.{TaskRefusal}
use Rattle.hv_task_text.specs.declared.fault.TaskRefusal.TheVariants as R
use Rattle.hv_task_text.specs.declared.atom_lists.Item.{Item}
use Rattle.hv_task_text.specs.declared.atom_lists.AtomLists.{AtomLists}

-- whether the line is a name
abbrev pub is_short_name : List ℕ → Result (Unit {0}) TaskRefusal
is_short_name bytes = cond (nat_le (length bytes) 1024) (Ok tt) (Err (R.Limit W.Name))

-- no line of an action has been read
abbrev pub no_lists : AtomLists
no_lists = record { pre = []; add = []; del = [] }

-- the sets are those of these lines of an action
pub record AreOf (atoms : ℕ) (items : List Item) (lists : AtomLists) : Type 0 where
  pub pre : lists.pre ≡ set_of atoms (filter_map pre_of items)
  pub add : lists.add ≡ set_of atoms (filter_map add_of items)
  pub del : lists.del ≡ set_of atoms (filter_map del_of items)

-- no task has been read yet
abbrev pub no_task : Strips
no_task = record { names = []; start = []; goal = []; actions = [] }
