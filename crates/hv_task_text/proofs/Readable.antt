-- The canonical text of a task is a text of that task.
use Rattle.std.proofs.Common.{◌≡◌, ◌≢◌, ℕ, ◌+◌, ◌<◌, ◌≤◌, ◌^◌, Bool, true, false, List, [], ◌∷◌}
use Rattle.std.proofs.Common.{◌++◌, Option, Some, None, length, map, refl, sym, ◌∙◌, ap, subst}
use Rattle.std.proofs.Common.{arith, append_assoc, append-nil, length-append}
use Rattle.std.specs.Prelude.{codes, ◌==◌, ◌&&◌, not}
use Rattle.std.specs.Char.{digit_value}
use Rattle.std.specs.Fmt.{decimal}
use Rattle.std.specs.List.{All, cons_option, filter_map, flat_map, list_all}
use Rattle.std.specs.List.Sorted.{IsStrictlyIncreasing}
use Rattle.std.specs.Str.Parse.{AllDigits}
use Rattle.std.proofs.lemmas.Bool.Decides.{Decides-eqb}
use Rattle.std.proofs.lemmas.Fmt.{digits_decimal, length-decimal-le}
use Rattle.std.proofs.lemmas.List.{length-map}
use Rattle.std.proofs.lemmas.List.Elements.{All-append, All-cons, All-map, All-nil, All-head}
use Rattle.std.proofs.lemmas.List.Elements.{All-tail, All-weaker, filter_map-append}
use Rattle.std.proofs.lemmas.List.Sums.{sum_by-cons}
use Rattle.hv_bytes.specs.LineCuts.{IsClean, lines_of}
use Rattle.hv_bytes.specs.Working.LineCuts.{bytes_in}
use Rattle.hv_bytes.specs.Pieces.{pieces_after}
use Rattle.hv_bytes.specs.Standard.{most_file_bytes, most_line_bytes, standard}
use Rattle.hv_bytes.proofs.WholeText.{IsWithin, pieces_of_short}
use Rattle.hv_bytes.proofs.LineLaws.{lines_of-ended}
use Rattle.hv_bytes.proofs.DecimalTexts.{digits_model}
use Rattle.hv_task.specs.AtomList.{set_of}
use Rattle.hv_task.specs.State.{AreBelow}
use Rattle.hv_task.specs.Strips.{Strips, IsOver, IsTask}
use Rattle.hv_task.specs.declared.action.Action.{Action}
use Rattle.hv_task_text.specs.Written.{AreActions, IsItem, IsEntry, IsName}
use Rattle.hv_task_text.specs.Canonical.{bytes_of_lines, canonical_lines, canonical_of, entry_of}
use Rattle.hv_task_text.specs.Canonical.{head_of, with_lf, HasWritableNames, IsWritableName}
use Rattle.hv_task_text.specs.Working.Canonical.{IsStored}
use Rattle.hv_task_text.specs.TaskText.{TaskText}
use Rattle.hv_task_text.specs.declared.atom_lists.Item.{Item}
use Rattle.hv_task_text.specs.declared.atom_lists.Item.TheVariants as I
use Rattle.hv_task_text.specs.Written.{WrittenAction, item_line, atom_lines}
use Rattle.hv_task_text.specs.Written.{start_lines, goal_lines, head_lines, entry_lines, body_lines}
use Rattle.hv_task_text.specs.Written.{pre_of, add_of, del_of, written_action, task_of}
use Rattle.hv_task.proofs.Sets.{set_same}

abbrev IsNoLf : ℕ → Type 0
IsNoLf b = b ≢ 10

clean_digits : (bytes : List ℕ) → AllDigits 10 bytes → IsClean bytes
clean_digits [] d = All-nil IsNoLf
clean_digits (b ∷ bytes) d =
    All-cons IsNoLf b bytes (λ e. let v : digit_value 10 < 10 = subst
    (λ x. digit_value x < 10) e d.0 in absurd (omega arith)) (clean_digits bytes d.1)

pub clean_decimal : (n : ℕ) → n < 2 ^ 64 → IsClean (decimal n)
clean_decimal n l = clean_digits (decimal n) (digits_decimal digits_model n l)

cleaner : (b : ℕ) (bytes : List ℕ) (t : Bool) → b == 10 ≡ t
    → (list_all (λ b. not (b == 10)) bytes ≡ true → IsClean bytes)
    → not t && list_all (λ b. not (b == 10)) bytes ≡ true → IsClean (b ∷ bytes)
cleaner b bytes true s more f = absurd cc
cleaner b bytes false s more f = All-cons IsNoLf b bytes
    (λ eq. let t = (Decides-eqb b 10).1 eq in absurd cc) (more f)

-- a word without an LF, by test
pub clean_word : (bytes : List ℕ) → list_all (λ b. not (b == 10)) bytes ≡ true → IsClean bytes
clean_word [] e = All-nil IsNoLf
clean_word (b ∷ bytes) e = cleaner b bytes (b == 10) refl (clean_word bytes) e

-- a line that can be in a text: it has no LF and is within the limit
record IsLine (line : List ℕ) : Type 0 where
  pub clean : IsClean line
  pub short : length line ≤ most_line_bytes

word_line : (word : List ℕ) → list_all (λ b. not (b == 10)) word ≡ true → length word ≤ 100
    → IsLine word
word_line word e l = record { clean = clean_word word e; short = omega arith }

number_line : (word : List ℕ) (n : ℕ) → list_all (λ b. not (b == 10)) word ≡ true
    → length word ≤ 100 → n < 10 ^ 18 → IsLine (word ++ decimal n)
number_line word n e l s =
    let d = length-decimal-le 18 n (omega arith) s (omega arith) in
    let k = length-append word (decimal n) in
    record {
      clean = All-append IsNoLf word (decimal n) (clean_word word e)
          (clean_decimal n (omega arith));
      short = omega arith;
    }

name_line : (name : List ℕ) → IsWritableName name → IsLine name
name_line name w = let s = w.short in record { clean = w.clean; short = omega arith }

decimal_lines : (atoms : ℕ) (listed : List ℕ) → atoms ≤ 65535 → AreBelow atoms listed
    → All IsLine (map decimal listed)
decimal_lines atoms listed few below =
    All-map IsLine decimal listed (All-weaker (λ x. x < atoms) (λ x. IsLine (decimal x))
    (λ x l. number_line [] x refl (omega arith) (omega arith)) listed below)

line_of_item : (atoms : ℕ) (item : Item) → atoms ≤ 65535 → IsItem atoms item
    → IsLine (item_line item)
line_of_item atoms (I.Pre n) few l = number_line (codes "PRE:") n refl (omega arith) (omega arith)
line_of_item atoms (I.Add n) few l = number_line (codes "ADD:") n refl (omega arith) (omega arith)
line_of_item atoms (I.Del n) few l = number_line (codes "DEL:") n refl (omega arith) (omega arith)

lines_of_entry : (atoms : ℕ) (entry : WrittenAction) → atoms ≤ 65535 → IsEntry atoms entry
    → IsWritableName entry.name → All IsLine (entry_lines entry)
lines_of_entry atoms entry few e name =
    let c = e.cost in
    All-append IsLine (body_lines entry) (codes "end_action" ∷ [])
    (All-cons IsLine (codes "begin_action")
    (entry.name ∷ (codes "cost:" ++ decimal entry.cost) ∷ map item_line entry.items)
    (word_line (codes "begin_action") refl (omega arith))
    (All-cons IsLine entry.name ((codes "cost:" ++ decimal entry.cost) ∷ map item_line entry.items)
    (name_line entry.name name)
    (All-cons IsLine (codes "cost:" ++ decimal entry.cost) (map item_line entry.items)
    (number_line (codes "cost:") entry.cost refl (omega arith) (omega arith))
    (All-map IsLine item_line entry.items (All-weaker (IsItem atoms) (λ i. IsLine (item_line i))
    (λ i l. line_of_item atoms i few l) entry.items e.items)))))
    (All-cons IsLine (codes "end_action") [] (word_line (codes "end_action") refl (omega arith))
    (All-nil IsLine))

pub All-flat_map : {X Y : Type 0} (P : Y → Type 0) (f : X → List Y) (xs : List X)
    → All (λ x. All P (f x)) xs → All P (flat_map f xs)
All-flat_map P f [] a = All-nil P
All-flat_map P f (x ∷ xs) a =
    All-append P (f x) (flat_map f xs) (All-head (λ x. All P (f x)) x xs a)
    (All-flat_map P f xs (All-tail (λ x. All P (f x)) x xs a))

-- what is known of each action of a task whose names can be written
pub record IsWhole (atoms : ℕ) (action : Action) : Type 0 where
  pub over : IsOver atoms action
  pub stored : IsStored action
  pub name : IsWritableName action.name

entry_legal : (atoms : ℕ) (action : Action) → IsWhole atoms action → IsEntry atoms (entry_of action)
entry_legal atoms action w = record {
  name = w.name.short;
  cost = w.stored.cost;
  items = All-append (IsItem atoms) (map (λ n. I.Pre n) action.pre) (map
      (λ n. I.Add n) action.add ++ map (λ n. I.Del n) action.del)
      (All-map (IsItem atoms) (λ n. I.Pre n) action.pre w.over.pre)
      (All-append (IsItem atoms) (map (λ n. I.Add n) action.add) (map (λ n. I.Del n) action.del)
      (All-map (IsItem atoms) (λ n. I.Add n) action.add w.over.add)
      (All-map (IsItem atoms) (λ n. I.Del n) action.del w.over.del));
}

kept : (h : Item → Option ℕ) (k : ℕ → Item) → ((n : ℕ) → h (k n) ≡ Some n) → (xs : List ℕ)
    → filter_map h (map k xs) ≡ xs
kept h k e [] = refl
kept h k e (x ∷ xs) = ap (λ o. cons_option o (filter_map h (map k xs))) (e x)
    ∙ ap (λ ys. x ∷ ys) (kept h k e xs)

dropped : (h : Item → Option ℕ) (k : ℕ → Item) → ((n : ℕ) → h (k n) ≡ None) → (xs : List ℕ)
    → filter_map h (map k xs) ≡ []
dropped h k e [] = refl
dropped h k e (x ∷ xs) = ap (λ o. cons_option o (filter_map h (map k xs))) (e x) ∙ dropped h k e xs

-- the items of a canonical action, by their word
in_three : (h : Item → Option ℕ) (pres adds dels : List Item) (p a d : List ℕ)
    → filter_map h pres ≡ p → filter_map h adds ≡ a → filter_map h dels ≡ d
    → filter_map h (pres ++ (adds ++ dels)) ≡ p ++ (a ++ d)
in_three h pres adds dels p a d e f g =
    filter_map-append h pres (adds ++ dels) ∙ ap (λ x. x ++ filter_map h (adds ++ dels)) e
    ∙ ap (λ x. p ++ x) (filter_map-append h adds dels ∙ ap (λ x. x ++ filter_map h dels) f
    ∙ ap (λ x. a ++ x) g)

abbrev action_with : List ℕ → ℕ → List ℕ → List ℕ → List ℕ → Action
action_with name cost pres adds dels = record
    { name = name; cost = cost; pre = pres; add = adds; del = dels }

same_action : (name : List ℕ) (cost : ℕ) (p q a b d e : List ℕ) → p ≡ q → a ≡ b → d ≡ e
    → action_with name cost p a d ≡ action_with name cost q b e
same_action name cost p q a b d e f g h = cc

abbrev task_with : List (List ℕ) → List ℕ → List ℕ → List Action → Strips
task_with names start goal actions = record
    { names = names; start = start; goal = goal; actions = actions }

same_task : (names : List (List ℕ)) (s t g h : List ℕ) (a b : List Action) → s ≡ t → g ≡ h → a ≡ b
    → task_with names s g a ≡ task_with names t h b
same_task names s t g h a b p q r = cc

action_back : (atoms : ℕ) (action : Action) → IsOver atoms action → IsStored action
    → written_action atoms (entry_of action) ≡ action
action_back atoms action over stored =
    let pres = map (λ n. I.Pre n) action.pre in
    let adds = map (λ n. I.Add n) action.add in
    let dels = map (λ n. I.Del n) action.del in
    let p : set_of atoms (filter_map pre_of (pres ++ (adds ++ dels))) ≡ action.pre =
    ap (set_of atoms) (in_three pre_of pres adds dels action.pre [] []
    (kept pre_of (λ n. I.Pre n) (λ n. refl) action.pre)
    (dropped pre_of (λ n. I.Add n) (λ n. refl) action.add)
    (dropped pre_of (λ n. I.Del n) (λ n. refl) action.del) ∙ append-nil action.pre)
    ∙ set_same atoms action.pre stored.pre over.pre in
    let a : set_of atoms (filter_map add_of (pres ++ (adds ++ dels))) ≡ action.add =
    ap (set_of atoms) (in_three add_of pres adds dels [] action.add []
    (dropped add_of (λ n. I.Pre n) (λ n. refl) action.pre)
    (kept add_of (λ n. I.Add n) (λ n. refl) action.add)
    (dropped add_of (λ n. I.Del n) (λ n. refl) action.del) ∙ append-nil action.add)
    ∙ set_same atoms action.add stored.add over.add in
    let d : set_of atoms (filter_map del_of (pres ++ (adds ++ dels))) ≡ action.del =
    ap (set_of atoms) (in_three del_of pres adds dels [] [] action.del
    (dropped del_of (λ n. I.Pre n) (λ n. refl) action.pre)
    (dropped del_of (λ n. I.Add n) (λ n. refl) action.add)
    (kept del_of (λ n. I.Del n) (λ n. refl) action.del))
    ∙ set_same atoms action.del stored.del over.del in
    same_action action.name action.cost _ _ _ _ _ _ p a d

actions_back : (atoms : ℕ) (actions : List Action) → All (IsWhole atoms) actions
    → map (written_action atoms) (map entry_of actions) ≡ actions
actions_back atoms [] w = refl
actions_back atoms (action ∷ actions) w =
    let h = All-head (IsWhole atoms) action actions w in
    let e = action_back atoms action h.over h.stored in
    let f = actions_back atoms actions (All-tail (IsWhole atoms) action actions w) in
    cc

lines_back : (lines : List (List ℕ)) → All IsLine lines → lines_of (bytes_of_lines lines) ≡ lines
lines_back [] a = refl
lines_back (line ∷ lines) a =
    ap lines_of (append_assoc line (10 ∷ []) (bytes_of_lines lines))
    ∙ lines_of-ended line (bytes_of_lines lines) (All-head IsLine line lines a).clean
    ∙ ap (λ ls. line ∷ ls) (lines_back lines (All-tail IsLine line lines a))

bytes_counted : (lines : List (List ℕ)) → length (bytes_of_lines lines) ≡ bytes_in lines
bytes_counted [] = refl
bytes_counted (line ∷ lines) = omega (
  arith,
  length-append (with_lf line) (bytes_of_lines lines),
  length-append line (10 ∷ []),
  bytes_counted lines,
  sum_by-cons (λ l. length l + 1) line lines,
)

within_limit : (lines : List (List ℕ)) → All IsLine lines → All (IsWithin most_line_bytes) lines
within_limit lines fine = All-weaker IsLine (IsWithin most_line_bytes)
    (λ line l. l.short) lines fine

module _ (task : Strips) (is_task : IsTask task) (start_rises : IsStrictlyIncreasing task.start)
    (goal_rises : IsStrictlyIncreasing task.goal) (stored : All IsStored task.actions)
    (names : HasWritableNames task) where
  whole : All (IsWhole (length task.names)) task.actions
  whole = λ k d l. record {
    over = is_task.actions k d l;
    stored = stored k d l;
    name =
        names.actions k d l;
  }

  entries_legal : All (IsEntry (length task.names)) (map entry_of task.actions)
  entries_legal = All-map (IsEntry (length task.names)) entry_of task.actions
      (All-weaker (IsWhole (length task.names)) (λ a. IsEntry (length task.names) (entry_of a))
      (λ a w. entry_legal (length task.names) a w) task.actions whole)

  legal : AreActions (length (map entry_of task.actions)) (head_of task)
      (map entry_of task.actions)
  legal = record {
    is_head = record {
      names = record {
        few = is_task.few_atoms;
        each = All-weaker IsWritableName IsName
            (λ n w. w.short) task.names names.atoms;
      };
      start = is_task.start;
      goal = is_task.goal;
    };
    each = entries_legal;
    few = let n = length-map task.actions entry_of in let f = is_task.few_actions in omega arith;
  }

  entry_lines_fine : All IsLine (flat_map entry_lines (map entry_of task.actions))
  entry_lines_fine = All-flat_map IsLine entry_lines (map entry_of task.actions)
      (All-map (λ e. All IsLine (entry_lines e)) entry_of task.actions
      (All-weaker (IsWhole (length task.names)) (λ a. All IsLine (entry_lines (entry_of a)))
      (λ a w. lines_of_entry (length task.names) (entry_of a) is_task.few_atoms
      (entry_legal (length task.names) a w) w.name) task.actions whole))

  head_fine : All IsLine (head_lines (head_of task))
  head_fine =
      let n = is_task.few_atoms in
      let first = (codes "begin_atoms:" ++ decimal (length task.names)) ∷ task.names in
      let goal = codes "begin_goal" ∷ map decimal task.goal in
      let one = λ (word : List ℕ) (l : IsLine word). All-cons IsLine word [] l (All-nil IsLine) in
      let a : All IsLine first = All-cons IsLine
      (codes "begin_atoms:" ++ decimal (length task.names)) task.names
      (number_line (codes "begin_atoms:") (length task.names) refl (omega arith) (omega arith))
      (All-weaker IsWritableName IsLine name_line task.names names.atoms) in
      let b : All IsLine (atom_lines task.names) = All-append IsLine first (codes "end_atoms" ∷ [])
      a (one (codes "end_atoms") (word_line (codes "end_atoms") refl (omega arith))) in
      let c : All IsLine (start_lines task.names task.start) = All-append IsLine
      (atom_lines task.names) (codes "begin_init" ∷ map decimal task.start) b
      (All-cons IsLine (codes "begin_init") (map decimal task.start)
      (word_line (codes "begin_init") refl (omega arith))
      (decimal_lines (length task.names) task.start n is_task.start)) in
      let d : All IsLine (goal_lines task.names task.start task.goal) = All-append IsLine
      (start_lines task.names task.start) (codes "end_init" ∷ goal) c
      (All-cons IsLine (codes "end_init") goal (word_line (codes "end_init") refl (omega arith))
      (All-cons IsLine (codes "begin_goal") (map decimal task.goal)
      (word_line (codes "begin_goal") refl (omega arith))
      (decimal_lines (length task.names) task.goal n is_task.goal))) in
      All-append IsLine (goal_lines task.names task.start task.goal) (codes "end_goal" ∷ []) d
      (one (codes "end_goal") (word_line (codes "end_goal") refl (omega arith)))

  lines_fine : All IsLine (canonical_lines task)
  lines_fine =
      let count = length (map entry_of task.actions) in
      let n = length-map task.actions entry_of in
      let f = is_task.few_actions in
      All-append IsLine (head_lines (head_of task) ++ (codes "begin_actions:" ++ decimal count)
      ∷ flat_map entry_lines (map entry_of task.actions)) (codes "end_actions" ∷ [])
      (All-append IsLine (head_lines (head_of task))
      ((codes "begin_actions:" ++ decimal count)
      ∷ flat_map entry_lines (map entry_of task.actions)) head_fine
      (All-cons IsLine (codes "begin_actions:" ++ decimal count)
      (flat_map entry_lines (map entry_of task.actions))
      (number_line (codes "begin_actions:") count refl (omega arith) (omega arith))
      entry_lines_fine))
      (All-cons IsLine (codes "end_actions") [] (word_line (codes "end_actions") refl (omega arith))
      (All-nil IsLine))

  says : task_of (head_of task) (map entry_of task.actions) ≡ task
  says =
      let s = set_same (length task.names) task.start start_rises is_task.start in
      let g = set_same (length task.names) task.goal goal_rises is_task.goal in
      let a = actions_back (length task.names) task.actions whole in
      same_task task.names _ _ _ _ _ _ s g a

  pub readable : length (canonical_of task) ≤ most_file_bytes
      → TaskText standard (canonical_of task) task
  readable few =
      let counted = bytes_counted (canonical_lines task) in (
        head_of task,
        map entry_of task.actions,
        record {
          legal = legal;
          spelled = sym (ap (pieces_after standard 0) (lines_back (canonical_lines task) lines_fine)
              ∙ pieces_of_short standard 0 (canonical_lines task)
              (within_limit (canonical_lines task) lines_fine) (omega arith));
          says = says;
        },
      )
