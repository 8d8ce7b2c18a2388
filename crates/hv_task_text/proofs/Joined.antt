-- What comes of the pieces of a file is a task exactly where they are the text of this task.
use Rattle.std.proofs.Common.{◌≡◌, ◌∙◌, ℕ, ◌+◌, ◌<◌, ◌≤◌, ◌^◌, ◌++◌, List, [], ◌∷◌, Option, None}
use Rattle.std.proofs.Common.{Some, Ok, append-nil, append_assoc, ap, arith, length, map, refl}
use Rattle.std.proofs.Common.{subst, sym}
use Rattle.std.specs.Prelude.{IfSome, codes}
use Rattle.std.specs.Fmt.{decimal}
use Rattle.std.specs.List.{All, flat_map}
use Rattle.std.proofs.lemmas.List.{length-map}
use Rattle.hv_bytes.specs.Files.{Names, bytes_of}
use Rattle.hv_bytes.specs.Pieces.{PieceBytes, as_pieces, pieces_of}
use Rattle.hv_bytes.specs.declared.cutting.Limits.{Limits}
use Rattle.hv_grammar.specs.Forms.{is_word, numbered_in, numbered_line, word_line}
use Rattle.hv_grammar.specs.Parsers.{Parser, end_of_input, parsed, pure}
use Rattle.hv_grammar.specs.Parsers.{repeat, ◌>>=◌, ◌>>◌}
use Rattle.hv_grammar.specs.Working.Reads.{IsReadAs}
use Rattle.hv_task.specs.AtomList.{set_of}
use Rattle.hv_task.specs.State.{AreBelow}
use Rattle.hv_task.specs.Strips.{Strips}
use Rattle.hv_task.specs.declared.action.Action.{Action}
use Rattle.hv_task_text.specs.TaskFile.{action, action_lists, all_actions, atom_names, atom_or}
use Rattle.hv_task_text.specs.TaskFile.{atom_set, goal_atoms, item_or, list_till}
use Rattle.hv_task_text.specs.TaskFile.{name_in, line_of_name}
use Rattle.hv_task_text.specs.TaskFile.{start_atoms, task_file}
use Rattle.hv_task_text.specs.TaskText.{AreTaskTextOf, IsTaskReadFrom}
use Rattle.hv_task_text.specs.Written.{AreActions, AreNames, WrittenAction, WrittenHead, IsEntry}
use Rattle.hv_task_text.specs.Written.{IsItem}
use Rattle.hv_task_text.specs.Written.{IsName, atom_lines, entry_lines, item_line}
use Rattle.hv_task_text.specs.Written.{task_of, text_lines, written_action}
use Rattle.hv_task_text.specs.declared.fault.TaskKind.{TaskKind}
use Rattle.hv_task_text.specs.declared.fault.TaskKind.TheVariants as K
use Rattle.hv_task_text.specs.declared.fault.TaskLimit.TheVariants as W
use Rattle.hv_task_text.specs.declared.fault.TaskRefusal.{TaskRefusal}
use Rattle.hv_task_text.specs.declared.fault.TaskRefusal.TheVariants as R
use Rattle.hv_task_text.specs.declared.atom_lists.Item.{Item}
use Rattle.hv_task_text.proofs.LineTests.{atom_said, atom_spelled, atoms_closed}
use Rattle.hv_task_text.proofs.LineTests.{atoms_end, item_said}
use Rattle.hv_task_text.proofs.LineTests.{item_spelled, items_closed, items_end}
use Rattle.hv_task_text.proofs.LineTests.{name_is, name_taken}
use Rattle.hv_task_text.proofs.LineTests.{no_number}
use Rattle.hv_task_text.proofs.LineTests.{number_is, number_taken, word_is, word_taken}
use Rattle.hv_task_text.proofs.Parted.{Ends, Is, Spells, Splits, came_of, ended, ends_pure}
use Rattle.hv_task_text.proofs.Parted.{ends_then, glued, pieces_append, same_parsed, spells_each}
use Rattle.hv_task_text.proofs.Parted.{spells_line}
use Rattle.hv_task_text.proofs.Parted.{spells_list, spells_none, spells_then}
use Rattle.hv_task_text.proofs.Parted.{splits_as, splits_each}
use Rattle.hv_task_text.proofs.Parted.{splits_line, splits_list, splits_pure}

-- The parts, by their lines.

abbrev set_lines : List ℕ → List ℕ → List ℕ → List (List ℕ)
set_lines opening closing listed = opening ∷ map decimal listed ++ closing ∷ []

abbrev counted_lines : List WrittenAction → List (List ℕ)
counted_lines actions =
    (codes "begin_actions:" ++ decimal (length actions)) ∷ flat_map entry_lines actions
    ++ codes "end_actions" ∷ []

-- What follows a part.

abbrev names_end : List (List ℕ) → Parser TaskRefusal (List (List ℕ))
names_end names = word_line (codes "end_atoms") (R.Place K.EndAtoms) >> pure names

abbrev names_behind : ℕ → Parser TaskRefusal (List (List ℕ))
names_behind k = repeat k (line_of_name K.AtomName) >>= names_end

abbrev cost_and_lists : ℕ → List ℕ → Parser TaskRefusal Action
cost_and_lists atoms name =
    numbered_line (codes "cost:") 4294967295 (R.Place K.Cost) (R.Limit W.Cost)
    >>= action_lists atoms name

abbrev name_and_lists : ℕ → Parser TaskRefusal Action
name_and_lists atoms = line_of_name K.ActionName >>= cost_and_lists atoms

abbrev actions_end : List Action → Parser TaskRefusal (List Action)
actions_end actions = word_line (codes "end_actions") (R.Place K.EndActions) >> pure actions

abbrev actions_behind : ℕ → ℕ → Parser TaskRefusal (List Action)
actions_behind atoms k = repeat k (action atoms) >>= actions_end

-- a word, and what follows it
spells_word : {C : Type 0} (word : List ℕ) (bad : TaskRefusal) (f : Unit {0} → Parser TaskRefusal C)
    (ys : List (List ℕ)) (c : C) → Spells (f tt) ys c
    → Spells (word_line word bad >>= f) (word ∷ ys) c
spells_word word bad f ys c s =
    spells_then (word_line word bad) f (word ∷ []) ys tt c
    (spells_line bad (is_word word bad) word tt (word_taken word bad)) s

-- a number behind a header, and what follows it
spells_number : {C : Type 0} (header : List ℕ) (most : ℕ) (bad many : TaskRefusal)
    (f : ℕ → Parser TaskRefusal C) (n : ℕ) (ys : List (List ℕ)) (c : C) → n ≤ most
    → n < 10 ^ 18 → Spells (f n) ys c
    → Spells (numbered_line header most bad many >>= f) ((header ++ decimal n) ∷ ys) c
spells_number header most bad many f n ys c few short s =
    spells_then (numbered_line header most bad many) f ((header ++ decimal n) ∷ []) ys n c
    (spells_line bad (numbered_in header most bad many) (header ++ decimal n) n
    (number_taken header most bad many n few short)) s

singles : (names : List (List ℕ)) → flat_map (λ name. name ∷ []) names ≡ names
singles [] = refl
singles (name ∷ names) = ap (λ ns. name ∷ ns) (singles names)

same_names : (names : List (List ℕ)) → map (λ name. name) names ≡ names
same_names [] = refl
same_names (name ∷ names) = ap (λ ns. name ∷ ns) (same_names names)

names_read : (names : List (List ℕ)) → All IsName names
    → Spells (repeat (length names) (line_of_name K.AtomName)) names names
names_read names each =
    subst (λ ns. Spells (repeat (length names) (line_of_name K.AtomName)) names ns)
    (same_names names)
    (subst (λ lines. Spells (repeat (length names) (line_of_name K.AtomName)) lines
    (map (λ name. name) names)) (singles names)
    (spells_each (line_of_name K.AtomName) (λ name. name ∷ []) (λ name. name) IsName names []
    (λ name short. spells_line (R.Place K.AtomName) name_in name name (name_taken name short))
    each))

atom_names_read : (names : List (List ℕ)) → AreNames names
    → Spells atom_names (atom_lines names) names
atom_names_read names are =
    let few = are.few in
    spells_number (codes "begin_atoms:") 65535 (R.Place K.BeginAtoms) (R.Limit W.Atoms)
    names_behind (length names) (names ++ codes "end_atoms" ∷ []) names few (omega arith)
    (spells_then (repeat (length names) (line_of_name K.AtomName)) names_end names
    (codes "end_atoms" ∷ [])
    names names (names_read names are.each)
    (spells_word (codes "end_atoms") (R.Place K.EndAtoms) (λ _. pure names) [] names
    (spells_none names)))

atom_set_read : (closing : List ℕ) (kind : TaskKind) (atoms : ℕ) (listed : List ℕ) → atoms ≤ 65535
    → atom_or closing kind atoms closing ≡ Ok None → AreBelow atoms listed
    → Spells (atom_set closing kind atoms) (map decimal listed ++ closing ∷ [])
    (set_of atoms listed)
atom_set_read closing kind atoms listed few last below =
    subst (λ lines. Spells (atom_set closing kind atoms) lines (set_of atoms listed))
    (append-nil (map decimal listed ++ closing ∷ []))
    (spells_then (list_till kind (atom_or closing kind atoms)) (λ all. pure (set_of atoms all))
    (map decimal listed ++ closing ∷ []) [] listed (set_of atoms listed)
    (spells_list kind (atom_or closing kind atoms) decimal closing (λ n. n < atoms) listed []
    (λ n less. atom_said closing kind atoms n less few) last below)
    (spells_none (set_of atoms listed)))

start_read : (atoms : ℕ) (listed : List ℕ) → atoms ≤ 65535 → AreBelow atoms listed
    → Spells (start_atoms atoms) (set_lines (codes "begin_init") (codes "end_init") listed)
    (set_of atoms listed)
start_read atoms listed few below =
    spells_word (codes "begin_init") (R.Place K.BeginInit)
    (λ _. atom_set (codes "end_init") K.InitAtom atoms)
    (map decimal listed ++ codes "end_init" ∷ []) (set_of atoms listed)
    (atom_set_read (codes "end_init") K.InitAtom atoms listed few
    (atoms_closed (codes "end_init") K.InitAtom atoms (no_number (codes "nd_init"))) below)

goal_read : (atoms : ℕ) (listed : List ℕ) → atoms ≤ 65535 → AreBelow atoms listed
    → Spells (goal_atoms atoms) (set_lines (codes "begin_goal") (codes "end_goal") listed)
    (set_of atoms listed)
goal_read atoms listed few below =
    spells_word (codes "begin_goal") (R.Place K.BeginGoal)
    (λ _. atom_set (codes "end_goal") K.GoalAtom atoms)
    (map decimal listed ++ codes "end_goal" ∷ []) (set_of atoms listed)
    (atom_set_read (codes "end_goal") K.GoalAtom atoms listed few
    (atoms_closed (codes "end_goal") K.GoalAtom atoms (no_number (codes "nd_goal"))) below)

lists_read : (atoms : ℕ) (entry : WrittenAction) → atoms ≤ 65535 → IsEntry atoms entry
    → Spells (action_lists atoms entry.name entry.cost)
    (map item_line entry.items ++ codes "end_action" ∷ []) (written_action atoms entry)
lists_read atoms entry few is =
    subst (λ lines. Spells (action_lists atoms entry.name entry.cost) lines
    (written_action atoms entry)) (append-nil
    (map item_line entry.items ++ codes "end_action" ∷ []))
    (spells_then (list_till K.ActionLine (item_or atoms)) (λ items. pure (written_action atoms
    (record { name = entry.name; cost = entry.cost; items = items })))
    (map item_line entry.items ++ codes "end_action" ∷ []) [] entry.items
    (written_action atoms entry)
    (spells_list K.ActionLine (item_or atoms) item_line (codes "end_action") (IsItem atoms)
    entry.items [] (item_said atoms few) (items_closed atoms) is.items)
    (spells_none (written_action atoms entry)))

action_read : (atoms : ℕ) (entry : WrittenAction) → atoms ≤ 65535 → IsEntry atoms entry
    → Spells (action atoms) (entry_lines entry) (written_action atoms entry)
action_read atoms entry few is =
    let cost = is.cost in
    let listed = map item_line entry.items ++ codes "end_action" ∷ [] in
    spells_word (codes "begin_action") (R.Place K.BeginAction) (λ _. name_and_lists atoms)
    (entry.name ∷ (codes "cost:" ++ decimal entry.cost) ∷ listed) (written_action atoms entry)
    (spells_then (line_of_name K.ActionName) (cost_and_lists atoms) (entry.name ∷ [])
    ((codes "cost:" ++ decimal entry.cost) ∷ listed) entry.name (written_action atoms entry)
    (spells_line (R.Place K.ActionName) name_in entry.name entry.name
    (name_taken entry.name is.name))
    (spells_number (codes "cost:") 4294967295 (R.Place K.Cost) (R.Limit W.Cost)
    (action_lists atoms entry.name) entry.cost listed (written_action atoms entry) cost
    (omega arith) (lists_read atoms entry few is)))

actions_read : (atoms : ℕ) (entries : List WrittenAction) → atoms ≤ 65535 → length entries ≤ 1000000
    → All (IsEntry atoms) entries
    → Spells (all_actions atoms) (counted_lines entries) (map (written_action atoms) entries)
actions_read atoms entries few many each =
    spells_number (codes "begin_actions:") 1000000 (R.Place K.BeginActions) (R.Limit W.Actions)
    (actions_behind atoms) (length entries)
    (flat_map entry_lines entries ++ codes "end_actions" ∷ [])
    (map (written_action atoms) entries) many (omega arith)
    (spells_then (repeat (length entries) (action atoms)) actions_end (flat_map entry_lines entries)
    (codes "end_actions" ∷ []) (map (written_action atoms) entries)
    (map (written_action atoms) entries)
    (spells_each (action atoms) entry_lines (written_action atoms) (IsEntry atoms) entries []
    (λ entry is. action_read atoms entry few is) each)
    (spells_word (codes "end_actions") (R.Place K.EndActions)
    (λ _. pure (map (written_action atoms) entries)) [] (map (written_action atoms) entries)
    (spells_none (map (written_action atoms) entries))))

-- the lines of a text, part by part
abbrev parts : WrittenHead → List WrittenAction → List (List ℕ)
parts head actions =
    atom_lines head.names ++ (set_lines (codes "begin_init") (codes "end_init") head.start
    ++ (set_lines (codes "begin_goal") (codes "end_goal") head.goal ++ counted_lines actions))

rightward : (n s g d a f : List (List ℕ))
    → ((((n ++ s) ++ g) ++ d) ++ a) ++ f ≡ n ++ (s ++ (g ++ (d ++ (a ++ f))))
rightward n s g d a f = simp append_assoc

shape : (names start goal actions : List (List ℕ)) (a b c d e f : List ℕ)
    → ((((names ++ a ∷ start) ++ b ∷ c ∷ goal) ++ d ∷ []) ++ e ∷ actions) ++ f ∷ []
    ≡ names ++ ((a ∷ start ++ b ∷ []) ++ ((c ∷ goal ++ d ∷ []) ++ (e ∷ actions ++ f ∷ [])))
shape names start goal actions a b c d e f =
    let last = e ∷ actions ++ f ∷ [] in
    rightward names (a ∷ start) (b ∷ c ∷ goal) (d ∷ []) (e ∷ actions) (f ∷ [])
    ∙ ap (λ ls. names ++ a ∷ ls) (ap (λ ls. start ++ b ∷ c ∷ ls)
    (sym (append_assoc goal (d ∷ []) last))
    ∙ sym (append_assoc start (b ∷ []) (c ∷ (goal ++ d ∷ []) ++ last)))

in_parts : (head : WrittenHead) (actions : List WrittenAction) → text_lines head actions ≡ parts
    head actions
in_parts head actions =
    shape (atom_lines head.names) (map decimal head.start) (map decimal head.goal)
    (flat_map entry_lines actions) (codes "begin_init") (codes "end_init") (codes "begin_goal")
    (codes "end_goal") (codes "begin_actions:" ++ decimal (length actions)) (codes "end_actions")

-- What follows each part.

abbrev after_actions : List (List ℕ) → List ℕ → List ℕ → List Action → Parser TaskRefusal Strips
after_actions names start goal actions =
    end_of_input (R.Place K.End)
    >> pure (record { names = names; start = start; goal = goal; actions = actions })

abbrev after_goal : List (List ℕ) → List ℕ → List ℕ → Parser TaskRefusal Strips
after_goal names start goal = all_actions (length names) >>= after_actions names start goal

abbrev after_start : List (List ℕ) → List ℕ → Parser TaskRefusal Strips
after_start names start = goal_atoms (length names) >>= after_goal names start

abbrev after_names : List (List ℕ) → Parser TaskRefusal Strips
after_names names = start_atoms (length names) >>= after_start names

task_ends : (head : WrittenHead) (actions : List WrittenAction) → AreActions (length actions) head
    actions
    → Ends task_file (parts head actions) (task_of head actions)
task_ends head actions legal =
    let names = head.names in
    let few = legal.is_head.names.few in
    let start = set_of (length names) head.start in
    let goal = set_of (length names) head.goal in
    let made = map (written_action (length names)) actions in
    let task = task_of head actions in
    let start_lines = set_lines (codes "begin_init") (codes "end_init") head.start in
    let goal_lines = set_lines (codes "begin_goal") (codes "end_goal") head.goal in
    let action_lines = counted_lines actions in
    ends_then atom_names after_names (atom_lines names)
    (start_lines ++ (goal_lines ++ action_lines)) names task
    (atom_names_read names legal.is_head.names)
    (ends_then (start_atoms (length names)) (after_start names) start_lines
    (goal_lines ++ action_lines) start task
    (start_read (length names) head.start few legal.is_head.start)
    (ends_then (goal_atoms (length names)) (after_goal names start) goal_lines action_lines goal
    task (goal_read (length names) head.goal few legal.is_head.goal)
    (subst (λ lines. Ends (after_goal names start goal) lines task) (append-nil action_lines)
    (ends_then (all_actions (length names)) (after_actions names start goal) action_lines [] made
    task (actions_read (length names) actions few legal.few legal.each)
    (ends_pure (R.Place K.End) task)))))

-- a text of a task is read as this task
pub text_is_read : (pieces : List PieceBytes) (task : Strips) → AreTaskTextOf pieces task
    → task_file 0 pieces ≡ parsed task (length pieces) []
text_is_read pieces task (head, actions, text) =
    let lines = parts head actions in
    let cut : as_pieces lines ≡ pieces =
    ap as_pieces (sym (in_parts head actions)) ∙ text.spelled in
    let size : 0 + length lines ≡ length pieces =
    omega (arith, length-map lines (λ (l : List ℕ). Some l), ap length cut) in
    ap (task_file 0) (sym cut) ∙ task_ends head actions text.legal 0
    ∙ ap (λ k. parsed (task_of head actions) k []) size
    ∙ ap (λ t. parsed t (length pieces) []) text.says

-- And back: what comes of pieces is the task of which they are the text.

-- what is said of a word and of what follows it
abbrev Worded : {C : Type 0} → List ℕ → (C → List (List ℕ) → Type 0) → C → List (List ℕ) → Type 0
Worded word Later c lines = (ys : List (List ℕ)) × Later c ys × (lines ≡ word ∷ ys)

-- what is said of a number behind a header and of what follows it
abbrev Numbered : {C : Type 0} → List ℕ → ℕ → (ℕ → C → List (List ℕ) → Type 0) → C
    → List (List ℕ) → Type 0
Numbered header most Later c lines =
    (k : ℕ) × (ys : List (List ℕ)) × (k ≤ most) × Later k c ys
    × (lines ≡ (header ++ decimal k) ∷ ys)

split_word : {C : Type 0} (word : List ℕ) (bad : TaskRefusal) (f : Unit {0} → Parser TaskRefusal C)
    (Later : C → List (List ℕ) → Type 0) → Splits (f tt) Later
    → Splits (word_line word bad >>= f) (Worded word Later)
split_word word bad f Later s n m ps qs c e =
    let w = came_of f (word_line word bad n ps) c m qs e in
    let x = splits_line bad (is_word word bad) n w.1 ps w.2 w.0 w.3 in
    let y = s w.1 m w.2 qs c w.4 in (
      word ∷ y.0,
      x.1 ∙ ap (λ ls. as_pieces ls ++ w.2) (x.2.2 ∙ ap (λ b. b ∷ [])
          (word_is x.2.0 word bad w.0 x.2.1)) ∙ ap (λ rs. Some word ∷ rs) y.1,
      (y.0, y.2, refl),
    )

split_number : {C : Type 0} (header : List ℕ) (most : ℕ) (bad many : TaskRefusal)
    (f : ℕ → Parser TaskRefusal C) (Later : ℕ → C → List (List ℕ) → Type 0)
    → ((k : ℕ) → Splits (f k) (Later k))
    → Splits (numbered_line header most bad many >>= f) (Numbered header most Later)
split_number header most bad many f Later s n m ps qs c e =
    let w = came_of f (numbered_line header most bad many n ps) c m qs e in
    let x = splits_line bad (numbered_in header most bad many) n w.1 ps w.2 w.0 w.3 in
    let y = s w.0 w.1 m w.2 qs c w.4 in
    let is = number_is header most bad many x.2.0 w.0 x.2.1 in (
      (header ++ decimal w.0) ∷ y.0,
      x.1 ∙ ap (λ ls. as_pieces ls ++ w.2) (x.2.2 ∙ ap (λ b. b ∷ []) is.0)
          ∙ ap (λ rs. Some (header ++ decimal w.0) ∷ rs) y.1,
      (w.0, y.0, is.1, y.2, refl),
    )

-- a name, by its line
split_name : (kind : TaskKind) → Splits (line_of_name kind)
    (Is (line_of_name kind) (λ name. name ∷ []) (λ name. name) IsName)
split_name kind =
    splits_as (line_of_name kind)
    (λ a lines. (l : List ℕ) × (name_in l ≡ Ok a) × (lines ≡ l ∷ []))
    (Is (line_of_name kind) (λ name. name ∷ []) (λ name. name) IsName)
    (λ a lines says. let is = name_is says.0 a says.1 in
    (a, is.0, refl, says.2 ∙ ap (λ l. l ∷ []) is.1))
    (splits_line (R.Place kind) name_in)

-- the names, behind their number
abbrev AreNamed : ℕ → List (List ℕ) → List (List ℕ) → Type 0
AreNamed k names lines =
    All IsName names × (length names ≡ k) × (lines ≡ names ++ codes "end_atoms" ∷ [])

split_names : (k : ℕ) → Splits (names_behind k) (AreNamed k)
split_names k n m ps qs names e =
    let w = came_of names_end (repeat k (line_of_name K.AtomName) n ps) names m qs e in
    let x = splits_each (line_of_name K.AtomName) (λ name. name ∷ []) (λ name. name) IsName k []
    (split_name K.AtomName) n w.1 ps w.2 w.0 w.3 in
    let y = split_word (codes "end_atoms") (R.Place K.EndAtoms) (λ _. pure w.0)
    (λ b lines. (b ≡ w.0) × (lines ≡ [])) (splits_pure w.0) w.1 m w.2 qs names w.4 in
    let all = x.2.0 in
    let are = x.2.1 in
    let same : all ≡ names =
    sym (same_names all) ∙ sym are.values ∙ sym y.2.1.0 in
    let spelled : x.0 ≡ names = are.lines_are ∙ singles all ∙ same in (
      names ++ codes "end_atoms" ∷ [],
      x.1 ∙ ap (λ ls. as_pieces ls ++ w.2) spelled
          ∙ ap (λ rs. as_pieces names ++ rs) (y.1 ∙ ap (λ ls. as_pieces ls ++ qs)
          (y.2.2 ∙ ap (λ ls. codes "end_atoms" ∷ ls) y.2.1.1))
          ∙ sym (pieces_append names (codes "end_atoms" ∷ []) qs),
      (subst (All IsName) same are.each, sym (ap length same) ∙ are.count, refl),
    )

split_atom_names : Splits atom_names (λ names lines. AreNames names × (lines ≡ atom_lines names))
split_atom_names =
    splits_as atom_names (Numbered (codes "begin_atoms:") 65535 AreNamed)
    (λ names lines. AreNames names × (lines ≡ atom_lines names))
    (λ names lines says. (
      record { few = subst (λ k. k ≤ 65535) (sym says.3.1) says.2; each = says.3.0 },
      says.4 ∙ ap (λ ls. (codes "begin_atoms:" ++ decimal says.0) ∷ ls) says.3.2
          ∙ ap (λ k. (codes "begin_atoms:" ++ decimal k) ∷ names ++ codes "end_atoms" ∷ [])
          (sym says.3.1),
    ))
    (split_number (codes "begin_atoms:") 65535 (R.Place K.BeginAtoms) (R.Limit W.Atoms)
    names_behind AreNamed split_names)

-- what is said of a set of atoms, and the lines of its list
abbrev IsSet : (List (List ℕ) → List ℕ → Type 0) → ℕ → List ℕ → List (List ℕ) → Type 0
IsSet Lines atoms set lines =
    (listed : List ℕ) × AreBelow atoms listed × (set ≡ set_of atoms listed) × Lines lines listed

split_set : (closing : List ℕ) (kind : TaskKind) (atoms : ℕ)
    → Splits (atom_set closing kind atoms)
    (IsSet (λ lines listed. lines ≡ map decimal listed ++ closing ∷ []) atoms)
split_set closing kind atoms n m ps qs set e =
    let test = atom_or closing kind atoms in
    let w = came_of (λ all. pure (set_of atoms all)) (list_till kind test n ps) set m qs e in
    let x = splits_list kind test decimal closing (λ i. i < atoms)
    (λ l i is. atom_spelled closing kind atoms l i is) (λ l is. atoms_end closing kind atoms l is)
    [] n w.1 ps w.2 w.0 w.3 in
    let s = same_parsed (set_of atoms w.0) set w.1 m w.2 qs w.4 in (
      x.0,
      x.1 ∙ ap (λ rs. as_pieces x.0 ++ rs) s.1,
      (x.2.0, x.2.1.each, sym s.0 ∙ ap (set_of atoms) x.2.1.values, x.2.1.lines_are),
    )

split_opened : (opening closing : List ℕ) (first kind : TaskKind) (atoms : ℕ)
    → Splits (word_line opening (R.Place first) >> atom_set closing kind atoms)
    (IsSet (λ lines listed. lines ≡ set_lines opening closing listed) atoms)
split_opened opening closing first kind atoms =
    splits_as (word_line opening (R.Place first) >> atom_set closing kind atoms)
    (Worded opening (IsSet (λ lines listed. lines ≡ map decimal listed ++ closing ∷ []) atoms))
    (IsSet (λ lines listed. lines ≡ set_lines opening closing listed) atoms)
    (λ set lines says.
    (says.1.0, says.1.1, says.1.2, says.2 ∙ ap (λ ls. opening ∷ ls) says.1.3))
    (split_word opening (R.Place first) (λ _. atom_set closing kind atoms)
    (IsSet (λ lines listed. lines ≡ map decimal listed ++ closing ∷ []) atoms)
    (split_set closing kind atoms))

-- what is said of an action of this name and cost, and the lines of its lists
abbrev IsListed : ℕ → List ℕ → ℕ → Action → List (List ℕ) → Type 0
IsListed atoms name cost a lines =
    (items : List Item) × All (IsItem atoms) items
    × (a ≡ written_action atoms (record { name = name; cost = cost; items = items }))
    × (lines ≡ map item_line items ++ codes "end_action" ∷ [])

split_lists : (atoms : ℕ) (name : List ℕ) (cost : ℕ)
    → Splits (action_lists atoms name cost) (IsListed atoms name cost)
split_lists atoms name cost n m ps qs a e =
    let w = came_of (λ items. pure (written_action atoms
    (record { name = name; cost = cost; items = items })))
    (list_till K.ActionLine (item_or atoms) n ps) a m qs e in
    let x = splits_list K.ActionLine (item_or atoms) item_line (codes "end_action") (IsItem atoms)
    (λ l i is. item_spelled atoms l i is) (λ l is. items_end atoms l is)
    [] n w.1 ps w.2 w.0 w.3 in
    let s = same_parsed (written_action atoms (record { name = name; cost = cost; items = w.0 })) a
    w.1 m w.2 qs w.4 in (
      x.0,
      x.1 ∙ ap (λ rs. as_pieces x.0 ++ rs) s.1,
      (
        x.2.0,
        x.2.1.each,
        sym s.0 ∙ ap (λ items. written_action atoms
            (record { name = name; cost = cost; items = items })) x.2.1.values,
        x.2.1.lines_are,
      ),
    )

abbrev IsBody : ℕ → Action → List (List ℕ) → Type 0
IsBody atoms a lines =
    (entry : WrittenAction) × IsEntry atoms entry × (a ≡ written_action atoms entry)
    × (codes "begin_action" ∷ lines ≡ entry_lines entry)

split_body : (atoms : ℕ) → Splits (name_and_lists atoms) (IsBody atoms)
split_body atoms n m ps qs a e =
    let w = came_of (cost_and_lists atoms) (line_of_name K.ActionName n ps) a m qs e in
    let x = split_name K.ActionName n w.1 ps w.2 w.0 w.3 in
    let y = split_number (codes "cost:") 4294967295 (R.Place K.Cost) (R.Limit W.Cost)
    (action_lists atoms w.0) (IsListed atoms w.0) (split_lists atoms w.0) w.1 m w.2 qs a w.4 in
    let says = y.2 in
    let name : IsName w.0 = subst IsName (sym x.2.2) x.2.1 in
    let spelled : x.0 ≡ w.0 ∷ [] = x.2.3 ∙ ap (λ l. l ∷ []) (sym x.2.2) in
    let cost = says.0 in
    let items = says.3.0 in (
      w.0 ∷ y.0,
      x.1 ∙ ap (λ ls. as_pieces ls ++ w.2) spelled ∙ ap (λ rs. Some w.0 ∷ rs) y.1,
      (
        record { name = w.0; cost = cost; items = items },
        record { name = name; cost = says.2; items = says.3.1 },
        says.3.2,
        ap (λ ls. codes "begin_action" ∷ w.0 ∷ ls)
            (says.4 ∙ ap (λ ls. (codes "cost:" ++ decimal cost) ∷ ls) says.3.3),
      ),
    )

split_action : (atoms : ℕ)
    → Splits (action atoms) (Is (action atoms) entry_lines (written_action atoms) (IsEntry atoms))
split_action atoms =
    splits_as (action atoms) (Worded (codes "begin_action") (IsBody atoms))
    (Is (action atoms) entry_lines (written_action atoms) (IsEntry atoms))
    (λ a lines says. (says.1.0, says.1.1, says.1.2, says.2 ∙ says.1.3))
    (split_word (codes "begin_action") (R.Place K.BeginAction) (λ _. name_and_lists atoms)
    (IsBody atoms) (split_body atoms))

-- the actions, behind their number
abbrev AreWritten : ℕ → ℕ → List Action → List (List ℕ) → Type 0
AreWritten atoms k actions lines =
    (entries : List WrittenAction) × All (IsEntry atoms) entries × (length entries ≡ k)
    × (actions ≡ map (written_action atoms) entries)
    × (lines ≡ flat_map entry_lines entries ++ codes "end_actions" ∷ [])

split_each_action : (atoms k : ℕ) → Splits (actions_behind atoms k) (AreWritten atoms k)
split_each_action atoms k n m ps qs actions e =
    let w = came_of actions_end (repeat k (action atoms) n ps) actions m qs e in
    let x = splits_each (action atoms) entry_lines (written_action atoms) (IsEntry atoms) k []
    (split_action atoms) n w.1 ps w.2 w.0 w.3 in
    let y = split_word (codes "end_actions") (R.Place K.EndActions) (λ _. pure w.0)
    (λ b lines. (b ≡ w.0) × (lines ≡ [])) (splits_pure w.0) w.1 m w.2 qs actions w.4 in
    let entries = x.2.0 in
    let are = x.2.1 in (
      flat_map entry_lines entries ++ codes "end_actions" ∷ [],
      x.1 ∙ ap (λ ls. as_pieces ls ++ w.2) are.lines_are
          ∙ ap (λ rs. as_pieces (flat_map entry_lines entries) ++ rs)
          (y.1 ∙ ap (λ ls. as_pieces ls ++ qs)
          (y.2.2 ∙ ap (λ ls. codes "end_actions" ∷ ls) y.2.1.1))
          ∙ sym (pieces_append (flat_map entry_lines entries) (codes "end_actions" ∷ []) qs),
      (entries, are.each, are.count, y.2.1.0 ∙ are.values, refl),
    )

-- what is said of all actions, and their lines
abbrev AreAll : ℕ → List Action → List (List ℕ) → Type 0
AreAll atoms actions lines =
    (entries : List WrittenAction) × All (IsEntry atoms) entries × (length entries ≤ 1000000)
    × (actions ≡ map (written_action atoms) entries) × (lines ≡ counted_lines entries)

split_actions : (atoms : ℕ) → Splits (all_actions atoms) (AreAll atoms)
split_actions atoms =
    splits_as (all_actions atoms)
    (Numbered (codes "begin_actions:") 1000000 (AreWritten atoms)) (AreAll atoms)
    (λ actions lines says. let written = says.3 in (
      written.0,
      written.1,
      subst (λ k. k ≤ 1000000) (sym written.2) says.2,
      written.3,
      says.4 ∙ ap (λ ls. (codes "begin_actions:" ++ decimal says.0) ∷ ls) written.4
          ∙ ap (λ k. (codes "begin_actions:" ++ decimal k) ∷ flat_map entry_lines written.0
          ++ codes "end_actions" ∷ []) (sym written.2),
    ))
    (split_number (codes "begin_actions:") 1000000 (R.Place K.BeginActions) (R.Limit W.Actions)
    (actions_behind atoms) (AreWritten atoms) (split_each_action atoms))

same_task : (names : List (List ℕ)) (s t g h : List ℕ) (a b : List Action) → s ≡ t → g ≡ h → a ≡ b
    → ◌≡◌ {A = Strips} (record { names = names; start = s; goal = g; actions = a })
    (record { names = names; start = t; goal = h; actions = b })
same_task names s t g h a b p q r = cc

same_parts : (a b c d e f g h : List (List ℕ)) → a ≡ b → c ≡ d → e ≡ f → g ≡ h
    → a ++ (c ++ (e ++ g)) ≡ b ++ (d ++ (f ++ h))
same_parts a b c d e f g h p q r s = cc

pub read_is_text : (pieces : List PieceBytes) (task : Strips) (n : ℕ) (rest : List PieceBytes)
    → task_file 0 pieces ≡ parsed task n rest → AreTaskTextOf pieces task
read_is_text pieces task n rest e =
    let w = came_of after_names (atom_names 0 pieces) task n rest e in
    let names = w.0 in
    let atoms = length names in
    let x = split_atom_names 0 w.1 pieces w.2 names w.3 in
    let w2 = came_of (after_start names) (start_atoms atoms w.1 w.2) task n rest w.4 in
    let x2 = split_opened (codes "begin_init") (codes "end_init") K.BeginInit K.InitAtom atoms
    w.1 w2.1 w.2 w2.2 w2.0 w2.3 in
    let w3 = came_of (after_goal names w2.0) (goal_atoms atoms w2.1 w2.2) task n rest w2.4 in
    let x3 = split_opened (codes "begin_goal") (codes "end_goal") K.BeginGoal K.GoalAtom atoms
    w2.1 w3.1 w2.2 w3.2 w3.0 w3.3 in
    let w4 = came_of (after_actions names w2.0 w3.0) (all_actions atoms w3.1 w3.2) task n rest w3.4
    in
    let x4 = split_actions atoms w3.1 w4.1 w3.2 w4.2 w4.0 w4.3 in
    let end = ended (R.Place K.End)
    (record { names = names; start = w2.0; goal = w3.0; actions = w4.0 }) task w4.1 n w4.2 rest
    w4.4 in
    let head : WrittenHead = record { names = names; start = x2.2.0; goal = x3.2.0 } in
    let entries = x4.2.0 in
    let last : w3.2 ≡ as_pieces x4.0 =
    x4.1 ∙ ap (λ rs. as_pieces x4.0 ++ rs) end.1 ∙ append-nil (as_pieces x4.0) in
    let cut : pieces ≡ as_pieces (x.0 ++ (x2.0 ++ (x3.0 ++ x4.0))) =
    glued pieces w.2 x.0 (x2.0 ++ (x3.0 ++ x4.0)) x.1
    (glued w.2 w2.2 x2.0 (x3.0 ++ x4.0) x2.1 (glued w2.2 w3.2 x3.0 x4.0 x3.1 last)) in
    let lines : x.0 ++ (x2.0 ++ (x3.0 ++ x4.0)) ≡ parts head entries =
    same_parts x.0 (atom_lines names) x2.0
    (set_lines (codes "begin_init") (codes "end_init") head.start) x3.0
    (set_lines (codes "begin_goal") (codes "end_goal") head.goal) x4.0 (counted_lines entries)
    x.2.1 x2.2.3 x3.2.3 x4.2.4 in (
      head,
      entries,
      record {
        legal = record {
          is_head = record { names = x.2.0; start = x2.2.1; goal = x3.2.1 };
          each = x4.2.1;
          few = x4.2.2;
        };
        spelled = ap as_pieces (in_parts head entries ∙ sym lines) ∙ sym cut;
        says = sym (end.0 ∙ same_task names w2.0 _ w3.0 _ w4.0 _ x2.2.2 x3.2.2 x4.2.3);
      },
    )

-- the task that is answered is the one that comes of the whole file
pub answers_task : (files : Option Names) (name : List ℕ) (limits : Limits) (task : Strips)
    → IfSome files (λ f. IsReadAs (task_file 0 (pieces_of limits (bytes_of f name))) (Ok task))
    → IfSome files (λ f. IsTaskReadFrom limits (bytes_of f name) (Ok task))
answers_task None name limits task h = tt
answers_task (Some f) name limits task h =
    read_is_text (pieces_of limits (bytes_of f name)) task h.0 h.1 h.2
