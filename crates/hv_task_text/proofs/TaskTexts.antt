-- The task of a text keeps what every task keeps, and can be written and read again.
use Rattle.std.proofs.Common.{ℕ, All, List, [], ◌∷◌, ◌++◌, arith, get_or, length, map, subst, sym}
use Rattle.std.specs.List.{flat_map}
use Rattle.std.specs.Prelude.{codes, decimal}
use Rattle.std.proofs.lemmas.List.{length-map}
use Rattle.std.proofs.lemmas.List.Elements.{All-cons, All-head, All-map, All-nil, All-tail}
use Rattle.std.proofs.lemmas.List.Elements.{All-weaker}
use Rattle.hv_bytes.specs.LineCuts.{IsClean}
use Rattle.hv_bytes.specs.Pieces.{PieceBytes}
use Rattle.hv_bytes.specs.declared.cutting.Limits.{Limits}
use Rattle.hv_task.specs.Strips.{Strips, IsOver, IsTask}
use Rattle.hv_task.specs.declared.action.Action.{Action}
use Rattle.hv_task_text.specs.Canonical.{HasWritableNames, IsWritableName}
use Rattle.hv_task_text.specs.TaskText.{AreTaskTextOf, TaskText}
use Rattle.hv_task_text.specs.Working.Canonical.{IsStored}
use Rattle.hv_task_text.specs.Written.{WrittenAction, WrittenHead, atom_lines, entry_lines}
use Rattle.hv_task_text.specs.Written.{goal_lines, head_lines}
use Rattle.hv_task_text.specs.Written.{AreActions, IsEntry, start_lines, task_of, text_lines}
use Rattle.hv_task_text.specs.Written.{written_action}
use Rattle.hv_task.proofs.Sets.{set_below, set_rises}
use Rattle.hv_task_text.proofs.CleanLines.{clean_pieces}

pub action_over : (atoms : ℕ) (entry : WrittenAction) → IsOver atoms (written_action atoms entry)
action_over atoms entry =
    record { pre = set_below atoms _; add = set_below atoms _; del = set_below atoms _ }

legal_task : (head : WrittenHead) (actions : List WrittenAction) → AreActions (length actions) head
    actions
    → IsTask (task_of head actions)
legal_task head actions legal = record {
  start = set_below (length head.names) head.start;
  start_rises = set_rises (length head.names) head.start;
  goal = set_below (length head.names) head.goal;
  goal_rises = set_rises (length head.names) head.goal;
  actions = All-map (IsOver (length head.names)) (written_action (length head.names)) actions
      (λ k d below. action_over (length head.names) (get_or actions k d));
  few_atoms = legal.is_head.names.few;
  few_actions = (let size = length-map actions (written_action (length head.names)) in
      omega (arith, legal.few, size));
}

-- a text denotes a task
pub is_task : (pieces : List PieceBytes) (task : Strips) → AreTaskTextOf pieces task → IsTask task
is_task pieces task (head, actions, text) = subst IsTask text.says
    (legal_task head actions text.legal)

action_stored : (atoms : ℕ) (entry : WrittenAction) → IsEntry atoms entry
    → IsStored (written_action atoms entry)
action_stored atoms entry legal = record {
  cost = legal.cost;
  pre = set_rises atoms _;
  add = set_rises atoms _;
  del = set_rises atoms _;
}

legal_stored : (head : WrittenHead) (actions : List WrittenAction) → AreActions (length actions)
    head actions
    → All IsStored (task_of head actions).actions
legal_stored head actions legal =
    All-map IsStored (written_action (length head.names)) actions
    (All-weaker (IsEntry (length head.names))
    (λ (entry : WrittenAction). IsStored (written_action (length head.names) entry))
    (λ entry is. action_stored (length head.names) entry is) actions legal.each)

-- its actions are those that a task in the program has
pub are_stored : (pieces : List PieceBytes) (task : Strips) → AreTaskTextOf pieces task
    → All IsStored task.actions
are_stored pieces task (head, actions, text) =
    subst (λ (t : Strips). All IsStored t.actions) text.says (legal_stored head actions text.legal)

All-front : {X : Type 0} (P : X → Type 0) (xs ys : List X) → All P (xs ++ ys) → All P xs
All-front P [] ys all = All-nil P
All-front P (x ∷ xs) ys all =
    All-cons P x xs (All-head P x (xs ++ ys) all)
    (All-front P xs ys (All-tail P x (xs ++ ys) all))

All-rest : {X : Type 0} (P : X → Type 0) (xs ys : List X) → All P (xs ++ ys) → All P ys
All-rest P [] ys all = all
All-rest P (x ∷ xs) ys all = All-rest P xs ys (All-tail P x (xs ++ ys) all)

-- the names of the atoms are lines of the text
atom_names : (P : List ℕ → Type 0) (head : WrittenHead) (actions : List WrittenAction)
    → All P (text_lines head actions) → All P head.names
atom_names P head actions all =
    let more = (codes "begin_actions:" ++ decimal (length actions))
    ∷ flat_map entry_lines actions in
    let heads : All P (head_lines head) =
    All-front P (head_lines head) more
    (All-front P (head_lines head ++ more) (codes "end_actions" ∷ []) all) in
    let goals = All-front P (goal_lines head.names head.start head.goal) (codes "end_goal" ∷ [])
    heads in
    let starts = All-front P (start_lines head.names head.start)
    (codes "end_init" ∷ codes "begin_goal" ∷ map decimal head.goal) goals in
    let atoms = All-front P (atom_lines head.names) (codes "begin_init" ∷ map decimal head.start)
    starts in
    let first = codes "begin_atoms:" ++ decimal (length head.names) in
    All-tail P first head.names
    (All-front P (first ∷ head.names) (codes "end_atoms" ∷ []) atoms)

names_of_entries : (P : List ℕ → Type 0) (actions : List WrittenAction)
    → All P (flat_map entry_lines actions) → All (λ (entry : WrittenAction). P entry.name) actions
names_of_entries P [] all = All-nil (λ (entry : WrittenAction). P entry.name)
names_of_entries P (entry ∷ actions) all =
    let own = All-front P (entry_lines entry) (flat_map entry_lines actions) all in
    let later = All-rest P (entry_lines entry) (flat_map entry_lines actions) all in
    All-cons (λ (entry : WrittenAction). P entry.name) entry actions (own 1 [] (omega arith))
    (names_of_entries P actions later)

-- and so are those of the actions
action_names : (P : List ℕ → Type 0) (head : WrittenHead) (actions : List WrittenAction)
    → All P (text_lines head actions) → All (λ (entry : WrittenAction). P entry.name) actions
action_names P head actions all =
    let first = codes "begin_actions:" ++ decimal (length actions) in
    let more = first ∷ flat_map entry_lines actions in
    names_of_entries P actions
    (All-tail P first (flat_map entry_lines actions)
    (All-rest P (head_lines head) more
    (All-front P (head_lines head ++ more) (codes "end_actions" ∷ []) all)))

legal_names : (head : WrittenHead) (actions : List WrittenAction) → AreActions (length actions) head
    actions
    → All IsClean (text_lines head actions) → HasWritableNames (task_of head actions)
legal_names head actions legal clean =
    let of_atoms = atom_names IsClean head actions clean in
    let of_actions = action_names IsClean head actions clean in
    record {
      atoms = λ k d less.
          record { clean = of_atoms k d less; short = legal.is_head.names.each k d less };
      actions = All-map (λ (action : Action). IsWritableName action.name)
          (written_action (length head.names)) actions
          (λ k d less. record { clean = of_actions k d less; short = (legal.each k d less).name });
    }

-- its names can be written
pub writable_names : (limits : Limits) (file : List ℕ) (task : Strips) → TaskText limits file task
    → HasWritableNames task
writable_names limits file task (head, actions, text) =
    subst HasWritableNames text.says
    (legal_names head actions text.legal
    (clean_pieces limits file (text_lines head actions) (sym text.spelled)))
