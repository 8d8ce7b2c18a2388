-- Texts that were appended one after another, against the lines of a text.
use Rattle.std.proofs.Common.{◌≡◌, ℕ, ◌+◌, ◌≤◌, List, [], ◌∷◌, ◌++◌, Some, length, take, map, refl}
use Rattle.std.proofs.Common.{sym, ◌∙◌, ap, subst, append_assoc, append-nil}
use Rattle.std.specs.Prelude.{codes}
use Rattle.std.specs.Fmt.{decimal}
use Rattle.std.specs.List.{All, flat_map, slice_get}
use Rattle.std.proofs.lemmas.List.{take_all, length-map, map-append}
use Rattle.std.proofs.lemmas.List.Concat.{flat_map-append}
use Rattle.std.proofs.lemmas.List.Elements.{All-push}
use Rattle.std.proofs.lemmas.List.Folds.{flat_map-map}
use Rattle.hv_task.specs.Strips.{Strips}
use Rattle.hv_task.specs.declared.action.Action.{Action}
use Rattle.hv_task.proofs.Lists.{take_next}
use Rattle.hv_task_text.specs.Canonical.{bytes_of_lines, canonical_of, entry_of, head_of, with_lf}
use Rattle.hv_task_text.specs.declared.atom_lists.Item.TheVariants as I
use Rattle.hv_task_text.specs.Written.{WrittenHead, item_line, name_lines, head_lines}
use Rattle.hv_task_text.specs.Written.{entry_lines}

-- one item more of a list whose items are written one after another
pub written_more : {X : Type 0} (f : X → List ℕ) (start text new : List ℕ) (xs : List X) (i : ℕ)
    (x : X) → slice_get xs i ≡ Some x → text ≡ start ++ flat_map f (take i xs) → new ≡ text ++ f x
    → new ≡ start ++ flat_map f (take (i + 1) xs)
written_more f start text new xs i x e t n =
    let m : flat_map f (take (i + 1) xs) ≡ flat_map f (take i xs) ++ f x =
    ap (flat_map f) (take_next xs i x e) ∙ flat_map-append f (take i xs) (x ∷ [])
    ∙ ap (λ ls. flat_map f (take i xs) ++ ls) (append-nil (f x)) in
    n ∙ ap (λ s. s ++ f x) t ∙ append_assoc start (flat_map f (take i xs)) (f x)
    ∙ ap (λ ls. start ++ ls) (sym m)

-- a fact of each item so far, and of one more
pub each_more : {X : Type 0} (P : X → Type 0) (xs : List X) (i : ℕ) (x : X)
    → slice_get xs i ≡ Some x → All P (take i xs) → P x → All P (take (i + 1) xs)
each_more P xs i x e a p = subst (λ ys. All P ys) (sym (take_next xs i x e))
    (All-push P (take i xs) x a p)

abbrev B : List (List ℕ) → List ℕ
B lines = bytes_of_lines lines

-- the text is the old one with these lines behind it
record AddsItem (old text : List ℕ) (lines : List (List ℕ)) : Type 0 where
  pub same : text ≡ old ++ B lines

lines_after : {old t u : List ℕ} {lines : List (List ℕ)} (more : List (List ℕ)) → AddsItem old t
    lines
    → u ≡ t ++ B more → AddsItem old u (lines ++ more)
lines_after {old} {t} {u} {lines} more e f = record {
  same = f ∙ ap (λ s. s ++ B more) e.same ∙ append_assoc old (B lines) (B more)
      ∙ ap (λ bs. old ++ bs) (sym (flat_map-append with_lf lines more));
}

line_after : {old t u : List ℕ} {lines : List (List ℕ)} (line : List ℕ) → AddsItem old t lines
    → u ≡ t ++ with_lf line → AddsItem old u (lines ++ line ∷ [])
line_after {old} {t} line e f = lines_after (line ∷ []) e
    (f ∙ ap (λ bs. t ++ bs) (sym (append-nil (with_lf line))))

first_line : {old u : List ℕ} (line : List ℕ) → u ≡ old ++ with_lf line → AddsItem old u (line ∷ [])
first_line {old} line f = record {
  same = f
      ∙ ap (λ bs. old ++ bs) (sym (append-nil (with_lf line)));
}

atoms_bytes : (t u word : List ℕ) (atoms : List ℕ)
    → u ≡ t ++ flat_map (λ n. with_lf (word ++ decimal n)) atoms
    → u ≡ t ++ B (map (λ n. word ++ decimal n) atoms)
atoms_bytes t u word atoms e = e ∙ ap (λ bs. t ++ bs)
    (sym (flat_map-map with_lf (λ n. word ++ decimal n) atoms))

pub names_written : (old t u : List ℕ) (names : List (List ℕ)) (n : ℕ)
    → t ≡ old ++ with_lf (codes "begin_atoms:" ++ decimal (length names)) → length names ≤ n
    → u ≡ t ++ B (take n names) → u ≡ old ++ B (name_lines (length names) names)
names_written old t u names n e l f =
    let line = codes "begin_atoms:" ++ decimal (length names) in
    (lines_after names (first_line line e) (f ∙ ap (λ ns. t ++ B ns) (take_all n names l))).same

head_shape : (names start goal : List (List ℕ)) (a b c d e : List ℕ)
    → (((((names ++ a ∷ []) ++ b ∷ []) ++ start) ++ c ∷ []) ++ d ∷ []) ++ goal ++ e ∷ []
    ≡ ((names ++ a ∷ []) ++ b ∷ start) ++ c ∷ d ∷ goal ++ e ∷ []
head_shape names start goal a b c d e = simp append_assoc

-- the head of a text, from what was appended one after another
pub head_written : (head : WrittenHead) (old a b c d e f g h : List ℕ)
    → a ≡ old ++ B (name_lines (length head.names) head.names)
    → b ≡ a ++ with_lf (codes "end_atoms") → c ≡ b ++ with_lf (codes "begin_init")
    → d ≡ c ++ flat_map (λ n. with_lf ([] ++ decimal n)) head.start
    → e ≡ d ++ with_lf (codes "end_init") → f ≡ e ++ with_lf (codes "begin_goal")
    → g ≡ f ++ flat_map (λ n. with_lf ([] ++ decimal n)) head.goal
    → h ≡ g ++ with_lf (codes "end_goal") → h ≡ old ++ B (head_lines head)
head_written head old a b c d e f g h p q r s t u v w =
    let names = name_lines (length head.names) head.names in
    let start = map decimal head.start in
    let goal = map decimal head.goal in
    let l0 : AddsItem old a names = record { same = p } in
    let la = line_after (codes "end_atoms") l0 q in
    let lb = line_after (codes "begin_init") la r in
    let lc = lines_after start lb (atoms_bytes c d [] head.start s) in
    let ld = line_after (codes "end_init") lc t in
    let le = line_after (codes "begin_goal") ld u in
    let lf = lines_after goal le (atoms_bytes f g [] head.goal v) in
    (line_after (codes "end_goal") lf w).same
    ∙ ap (λ ls. old ++ B ls) (head_shape names start goal (codes "end_atoms") (codes "begin_init")
    (codes "end_init") (codes "begin_goal") (codes "end_goal"))

map-map : {X Y Z : Type 0} (f : Y → Z) (g : X → Y) (xs : List X)
    → map f (map g xs) ≡ map (λ x. f (g x)) xs
map-map f g [] = refl
map-map f g (x ∷ xs) = ap (λ ys. f (g x) ∷ ys) (map-map f g xs)

item_lines : (a : Action) → map item_line (map (λ n. I.Pre n) a.pre ++ (map
    (λ n. I.Add n) a.add ++ map (λ n. I.Del n) a.del)) ≡ map
    (λ n. codes "PRE:" ++ decimal n) a.pre
    ++ (map (λ n. codes "ADD:" ++ decimal n) a.add ++ map (λ n. codes "DEL:" ++ decimal n) a.del)
item_lines a =
    map-append item_line (map (λ n. I.Pre n) a.pre) (map (λ n. I.Add n) a.add ++ map
    (λ n. I.Del n) a.del)
    ∙ ap (λ x. x ++ map item_line (map (λ n. I.Add n) a.add ++ map (λ n. I.Del n) a.del))
    (map-map item_line (λ n. I.Pre n) a.pre)
    ∙ ap (λ x. map (λ n. codes "PRE:" ++ decimal n) a.pre ++ x)
    (map-append item_line (map (λ n. I.Add n) a.add) (map (λ n. I.Del n) a.del)
    ∙ ap (λ x. x ++ map item_line (map (λ n. I.Del n) a.del)) (map-map item_line
    (λ n. I.Add n) a.add)
    ∙ ap (λ x. map (λ n. codes "ADD:" ++ decimal n) a.add ++ x)
    (map-map item_line (λ n. I.Del n) a.del))

action_shape : (pres adds dels : List (List ℕ)) (begin name cost end : List ℕ)
    → ((((begin ∷ [] ++ name ∷ []) ++ cost ∷ []) ++ pres) ++ adds) ++ dels ++ end ∷ []
    ≡ (begin ∷ name ∷ cost ∷ (pres ++ (adds ++ dels))) ++ end ∷ []
action_shape pres adds dels begin name cost end = simp append_assoc

-- an action, from what was appended one after another
pub action_written : (action : Action) (old a b c d e f g : List ℕ)
    → a ≡ old ++ with_lf (codes "begin_action") → b ≡ a ++ with_lf action.name
    → c ≡ b ++ with_lf (codes "cost:" ++ decimal action.cost)
    → d ≡ c ++ flat_map (λ n. with_lf (codes "PRE:" ++ decimal n)) action.pre
    → e ≡ d ++ flat_map (λ n. with_lf (codes "ADD:" ++ decimal n)) action.add
    → f ≡ e ++ flat_map (λ n. with_lf (codes "DEL:" ++ decimal n)) action.del
    → g ≡ f ++ with_lf (codes "end_action") → g ≡ old ++ B (entry_lines (entry_of action))
action_written action old a b c d e f g p q r s t u v =
    let pres = map (λ n. codes "PRE:" ++ decimal n) action.pre in
    let adds = map (λ n. codes "ADD:" ++ decimal n) action.add in
    let dels = map (λ n. codes "DEL:" ++ decimal n) action.del in
    let cost = codes "cost:" ++ decimal action.cost in
    let la = first_line (codes "begin_action") p in
    let lb = line_after action.name la q in
    let lc = line_after cost lb r in
    let ld = lines_after pres lc (atoms_bytes c d (codes "PRE:") action.pre s) in
    let le = lines_after adds ld (atoms_bytes d e (codes "ADD:") action.add t) in
    let lf = lines_after dels le (atoms_bytes e f (codes "DEL:") action.del u) in
    (line_after (codes "end_action") lf v).same
    ∙ ap (λ ls. old ++ B ls) (action_shape pres adds dels (codes "begin_action") action.name cost
    (codes "end_action"))
    ∙ ap (λ ls. old ++ B ((codes "begin_action" ∷ action.name ∷ cost ∷ ls) ++ codes "end_action"
    ∷ [])) (sym (item_lines action))

flat_map-flat_map : {X Y Z : Type 0} (f : Y → List Z) (g : X → List Y) (xs : List X)
    → flat_map f (flat_map g xs) ≡ flat_map (λ x. flat_map f (g x)) xs
flat_map-flat_map f g [] = refl
flat_map-flat_map f g (x ∷ xs) = flat_map-append f (g x) (flat_map g xs)
    ∙ ap (λ ls. flat_map f (g x) ++ ls) (flat_map-flat_map f g xs)

task_shape : (head actions : List (List ℕ)) (count end : List ℕ)
    → ((head ++ count ∷ []) ++ actions) ++ end ∷ [] ≡ (head ++ count ∷ actions) ++ end ∷ []
task_shape head actions count end = simp append_assoc

-- a whole text, from what was appended one after another
pub task_written : (task : Strips) (a b c d : List ℕ) → a ≡ [] ++ B (head_lines (head_of task))
    → b ≡ a ++ with_lf (codes "begin_actions:" ++ decimal (length task.actions))
    → c ≡ b ++ flat_map (λ action. bytes_of_lines (entry_lines (entry_of action))) task.actions
    → d ≡ c ++ with_lf (codes "end_actions") → d ≡ canonical_of task
task_written task a b c d p q r s =
    let head = head_lines (head_of task) in
    let entries = flat_map entry_lines (map entry_of task.actions) in
    let m : flat_map (λ action. bytes_of_lines (entry_lines (entry_of action))) task.actions
    ≡ B entries =
    sym (flat_map-flat_map with_lf entry_lines (map entry_of task.actions)
    ∙ flat_map-map (λ e. flat_map with_lf (entry_lines e)) entry_of task.actions) in
    let l0 : AddsItem [] a head = record { same = p } in
    let la = line_after (codes "begin_actions:" ++ decimal (length task.actions)) l0 q in
    let lb = lines_after entries la (r ∙ ap (λ bs. b ++ bs) m) in
    (line_after (codes "end_actions") lb s).same
    ∙ ap B (task_shape head entries (codes "begin_actions:" ++ decimal (length task.actions))
    (codes "end_actions"))
    ∙ ap (λ n. B ((head ++ (codes "begin_actions:" ++ decimal n) ∷ entries) ++ codes "end_actions"
    ∷ [])) (sym (length-map task.actions entry_of))
