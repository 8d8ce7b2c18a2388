-- Task texts, as the table of their format.
use Rattle.std.specs.Prelude.{◌++◌, ℕ, List, [], ◌∷◌, Option, None, Some, Result, Ok, Err, codes}
use Rattle.std.specs.Prelude.{cond, length, nat_le, nat_lt, option_and_then, option_map}
use Rattle.std.specs.Str.{bytes_eq}
use Rattle.hv_grammar.specs.Forms.{decimal_of, number_behind, numbered_line, word_line}
use Rattle.hv_grammar.specs.declared.fault.ParseFault.{ParseFault}
use Rattle.hv_grammar.specs.declared.fault.ParseFault.TheVariants as P
use Rattle.hv_grammar.specs.Parsers.{Outcome, Parser, end_of_input, line, long, many_till, parsed}
use Rattle.hv_grammar.specs.Parsers.{pure, refused, repeat, ◌>>=◌, ◌>>◌}
use Rattle.hv_task.specs.AtomList.{set_of}
use Rattle.hv_task.specs.Strips.{Strips}
use Rattle.hv_task.specs.declared.action.Action.{Action}
use Rattle.hv_task_text.specs.Written.{written_action}
use Rattle.hv_task_text.specs.declared.fault.TaskFault.{TaskFault}
use Rattle.hv_task_text.specs.declared.fault.TaskFault.TheVariants as F
use Rattle.hv_task_text.specs.declared.fault.TaskKind.{TaskKind}
use Rattle.hv_task_text.specs.declared.fault.TaskKind.TheVariants as K
use Rattle.hv_task_text.specs.declared.fault.TaskLimit.TheVariants as W
use Rattle.hv_task_text.specs.declared.fault.TaskRefusal.{TaskRefusal}
use Rattle.hv_task_text.specs.declared.fault.TaskRefusal.TheVariants as R
use Rattle.hv_task_text.specs.declared.atom_lists.Item.{Item}
use Rattle.hv_task_text.specs.declared.atom_lists.Item.TheVariants as I

-- a name, where it is within its limit
abbrev pub name_in : List ℕ → Result (List ℕ) TaskRefusal
name_in bytes = cond (nat_le (length bytes) 1024) (Ok bytes) (Err (R.Limit W.Name))

-- the line of a name
abbrev pub line_of_name : TaskKind → Parser TaskRefusal (List ℕ)
line_of_name kind = line (R.Place kind) name_in

-- the number, where it is that of one of so many atoms
abbrev pub atom_of : ℕ → Option ℕ → Option ℕ
atom_of atoms number = option_and_then (λ n. cond (nat_lt n atoms) (Some n) None) number

-- what a line of a list says; where it says nothing, it is the word that closes the list
abbrev pub or_closing : {A : Type 0} → List ℕ → TaskKind → List ℕ → Option A
    → Result (Option A) TaskRefusal
or_closing closing kind bytes (Some a) = Ok (Some a)
or_closing closing kind bytes None = cond (bytes_eq bytes closing) (Ok None) (Err (R.Place kind))

-- the list so far, with what one more line says
abbrev pub with_said : {A : Type 0} → List A → Result (Option A) TaskRefusal
    → Result (Option (List A)) TaskRefusal
with_said earlier (Ok (Some a)) = Ok (Some (earlier ++ a ∷ []))
with_said earlier (Ok None) = Ok None
with_said earlier (Err bad) = Err bad

-- lines up to the one that closes their list: the list of what they say
abbrev pub list_till : {A : Type 0} → TaskKind → (List ℕ → Result (Option A) TaskRefusal)
    → Parser TaskRefusal (List A)
list_till kind test = many_till (R.Place kind) (λ earlier bytes. with_said earlier (test bytes)) []

-- one of so many atoms, or the closing word
abbrev pub atom_or : List ℕ → TaskKind → ℕ → List ℕ → Result (Option ℕ) TaskRefusal
atom_or closing kind atoms bytes =
    or_closing closing kind bytes (atom_of atoms (decimal_of bytes))

-- a set of atoms, up to its closing word: any order, and repeats count once
abbrev pub atom_set : List ℕ → TaskKind → ℕ → Parser TaskRefusal (List ℕ)
atom_set closing kind atoms = do
  listed ← list_till kind (atom_or closing kind atoms)
  pure (set_of atoms listed)

-- one of so many atoms, behind a word
abbrev pub atom_behind : List ℕ → ℕ → List ℕ → Option ℕ
atom_behind word atoms bytes = atom_of atoms (number_behind word bytes)

-- the first value, or where there is none the other one
abbrev pub first_said : {A : Type 0} → Option A → Option A → Option A
first_said (Some a) other = Some a
first_said None other = other

-- a line of the lists of an action
abbrev pub item_in : ℕ → List ℕ → Option Item
item_in atoms bytes =
    first_said (option_map (λ n. I.Pre n) (atom_behind (codes "PRE:") atoms bytes))
    (first_said (option_map (λ n. I.Add n) (atom_behind (codes "ADD:") atoms bytes))
    (option_map (λ n. I.Del n) (atom_behind (codes "DEL:") atoms bytes)))

abbrev pub item_or : ℕ → List ℕ → Result (Option Item) TaskRefusal
item_or atoms bytes = or_closing (codes "end_action") K.ActionLine bytes (item_in atoms bytes)

-- the lines of the lists of an action of this name and cost, and the action
abbrev pub action_lists : ℕ → List ℕ → ℕ → Parser TaskRefusal Action
action_lists atoms its_name cost = do
  items ← list_till K.ActionLine (item_or atoms)
  pure (written_action atoms (record { name = its_name; cost = cost; items = items }))

-- an action in a task of so many atoms
abbrev pub action : ℕ → Parser TaskRefusal Action
action atoms = do
  word_line (codes "begin_action") (R.Place K.BeginAction)
  its_name ← line_of_name K.ActionName
  cost ← numbered_line (codes "cost:") 4294967295 (R.Place K.Cost) (R.Limit W.Cost)
  action_lists atoms its_name cost

-- the names of the atoms
abbrev pub atom_names : Parser TaskRefusal (List (List ℕ))
atom_names = do
  count ← numbered_line (codes "begin_atoms:") 65535 (R.Place K.BeginAtoms) (R.Limit W.Atoms)
  names ← repeat count (line_of_name K.AtomName)
  word_line (codes "end_atoms") (R.Place K.EndAtoms)
  pure names

-- the initial state
abbrev pub start_atoms : ℕ → Parser TaskRefusal (List ℕ)
start_atoms atoms = do
  word_line (codes "begin_init") (R.Place K.BeginInit)
  atom_set (codes "end_init") K.InitAtom atoms

-- the goal
abbrev pub goal_atoms : ℕ → Parser TaskRefusal (List ℕ)
goal_atoms atoms = do
  word_line (codes "begin_goal") (R.Place K.BeginGoal)
  atom_set (codes "end_goal") K.GoalAtom atoms

-- the actions
abbrev pub all_actions : ℕ → Parser TaskRefusal (List Action)
all_actions atoms = do
  count ← numbered_line (codes "begin_actions:") 1000000 (R.Place K.BeginActions)
      (R.Limit W.Actions)
  actions ← repeat count (action atoms)
  word_line (codes "end_actions") (R.Place K.EndActions)
  pure actions

-- a task text
abbrev pub task_file : Parser TaskRefusal Strips
task_file = do
  names ← atom_names
  start ← start_atoms (length names)
  goal ← goal_atoms (length names)
  actions ← all_actions (length names)
  end_of_input (R.Place K.End)
  pure (record { names = names; start = start; goal = goal; actions = actions })

-- the fault of a line of this number that is refused
abbrev pub task_fault_at : ℕ → TaskRefusal → TaskFault
task_fault_at number (R.Place kind) = F.Place number kind
task_fault_at number (R.Limit limit) = F.Limit number limit

-- the fault that comes of a file, if one does
abbrev pub task_fault_in : Outcome TaskRefusal Strips → Option TaskFault
task_fault_in (parsed task n ps) = None
task_fault_in (refused n bad) = Some (task_fault_at n bad)
task_fault_in (long n) = Some (F.Limit n W.Long)

-- the fault of a task text, by what its reader says
abbrev pub task_fault : ParseFault TaskRefusal → TaskFault
task_fault (P.Refused number refusal) = task_fault_at number refusal
task_fault (P.Long number) = F.Limit number W.Long
task_fault P.ReadFault = F.ReadFault
task_fault P.Memory = F.Memory
