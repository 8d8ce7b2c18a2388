-- The parts of a task text as they are written, and the task that a whole text denotes.
use Rattle.std.specs.Prelude.{ℕ, ◌<◌, ◌≤◌, List, [], ◌∷◌, ◌++◌, Option, Some, None, map}
use Rattle.std.specs.Prelude.{length, decimal, codes}
use Rattle.std.specs.List.{All, filter_map, flat_map}
use Rattle.hv_task.specs.declared.action.Action.{Action}
use Rattle.hv_task.specs.AtomList.{set_of}
use Rattle.hv_task.specs.State.{AreBelow}
use Rattle.hv_task.specs.Strips.{Strips}
use Rattle.hv_task_text.specs.declared.atom_lists.Item.{Item}
use Rattle.hv_task_text.specs.declared.atom_lists.Item.TheVariants as I

-- one line of an action's lists: the word and the atom's number behind it
abbrev pub item_line : Item → List ℕ
item_line (I.Pre atom) = codes "PRE:" ++ decimal atom
item_line (I.Add atom) = codes "ADD:" ++ decimal atom
item_line (I.Del atom) = codes "DEL:" ++ decimal atom

-- an action as it is written
pub record WrittenAction : Type 0 where
  pub name : List ℕ
  pub cost : ℕ
  pub items : List Item

-- what is written before the actions: the names of the atoms, the numbers of the initial state and
-- of the goal
pub record WrittenHead : Type 0 where
  pub names : List (List ℕ)
  pub start : List ℕ
  pub goal : List ℕ

-- The lines up to each place of a text. A line is given without its LF.

-- up to some name of an atom, after the header's number
abbrev pub name_lines : ℕ → List (List ℕ) → List (List ℕ)
name_lines count names = (codes "begin_atoms:" ++ decimal count) ∷ names

-- all names of the atoms
abbrev pub atom_lines : List (List ℕ) → List (List ℕ)
atom_lines names = name_lines (length names) names ++ codes "end_atoms" ∷ []

-- up to some number of the initial state
abbrev pub start_lines : List (List ℕ) → List ℕ → List (List ℕ)
start_lines names start = atom_lines names ++ codes "begin_init" ∷ map decimal start

-- up to some number of the goal
abbrev pub goal_lines : List (List ℕ) → List ℕ → List ℕ → List (List ℕ)
goal_lines names start goal = start_lines names start ++ codes "end_init" ∷ codes "begin_goal"
    ∷ map decimal goal

-- all that is written before the actions
abbrev pub head_lines : WrittenHead → List (List ℕ)
head_lines head = goal_lines head.names head.start head.goal ++ codes "end_goal" ∷ []

-- an action up to some line of its lists
abbrev pub body_lines : WrittenAction → List (List ℕ)
body_lines entry =
    codes "begin_action" ∷ entry.name ∷ (codes "cost:" ++ decimal entry.cost)
    ∷ map item_line entry.items

-- a whole action
abbrev pub entry_lines : WrittenAction → List (List ℕ)
entry_lines entry = body_lines entry ++ codes "end_action" ∷ []

-- up to some action, after the number of actions
abbrev pub action_lines : ℕ → WrittenHead → List WrittenAction → List (List ℕ)
action_lines count head actions =
    head_lines head ++ (codes "begin_actions:" ++ decimal count) ∷ flat_map entry_lines actions

-- a whole text
abbrev pub text_lines : WrittenHead → List WrittenAction → List (List ℕ)
text_lines head actions = action_lines (length actions) head actions ++ codes "end_actions" ∷ []

-- the atom of such a line, where it is one of the precondition, of what is added, of what is
-- deleted
abbrev pub pre_of : Item → Option ℕ
pre_of (I.Pre atom) = Some atom
pre_of (I.Add atom) = None
pre_of (I.Del atom) = None

abbrev pub add_of : Item → Option ℕ
add_of (I.Pre atom) = None
add_of (I.Add atom) = Some atom
add_of (I.Del atom) = None

abbrev pub del_of : Item → Option ℕ
del_of (I.Pre atom) = None
del_of (I.Add atom) = None
del_of (I.Del atom) = Some atom

-- the action that a written one denotes, in a task of so many atoms
abbrev pub written_action : ℕ → WrittenAction → Action
written_action atoms entry = record {
  name = entry.name;
  cost = entry.cost;
  pre = set_of atoms (filter_map pre_of entry.items);
  add = set_of atoms (filter_map add_of entry.items);
  del = set_of atoms (filter_map del_of entry.items);
}

-- the task that a text denotes
abbrev pub task_of : WrittenHead → List WrittenAction → Strips
task_of head actions = record {
  names = head.names;
  start = set_of (length head.names) head.start;
  goal = set_of (length head.names) head.goal;
  actions = map (written_action (length head.names)) actions;
}

-- The limits, and that each number is that of an atom.

-- a name is within its limit
abbrev pub IsName : List ℕ → Type 0
IsName name = length name ≤ 1024

-- the names of the atoms are within their limits
pub record AreNames (names : List (List ℕ)) : Type 0 where
  pub few : length names ≤ 65535
  pub each : All IsName names

-- the line names one of so many atoms
abbrev pub IsItem : ℕ → Item → Type 0
IsItem atoms (I.Pre atom) = atom < atoms
IsItem atoms (I.Add atom) = atom < atoms
IsItem atoms (I.Del atom) = atom < atoms

-- an action within the limits that names atoms of the task alone
pub record IsEntry (atoms : ℕ) (entry : WrittenAction) : Type 0 where
  pub name : IsName entry.name
  pub cost : entry.cost ≤ 4294967295
  pub items : All (IsItem atoms) entry.items

-- the atoms of the initial state and of the goal are those of the task
pub record IsHead (head : WrittenHead) : Type 0 where
  pub names : AreNames head.names
  pub start : AreBelow (length head.names) head.start
  pub goal : AreBelow (length head.names) head.goal

-- a head and actions, of which the header said so many
pub record AreActions (count : ℕ) (head : WrittenHead) (actions : List WrittenAction) : Type 0 where
  pub is_head : IsHead head
  pub each : All (IsEntry (length head.names)) actions
  pub few : count ≤ 1000000
