-- A state is a counterexample to a query exactly where it suits the roots of the query's tuples.
use Rattle.std.proofs.Common.{◌≡◌, ℕ, ◌<◌, ◌∙◌, ◌&&◌, Bool, true, false, not, List, [], ◌∷◌, ◌++◌}
use Rattle.std.proofs.Common.{Option, None, Some, cond, length, map, get_or, refl, sym, ap, arith}
use Rattle.std.proofs.Common.{subst}
use Rattle.std.proofs.lemmas.Bool.{and_from, and_parts, not-true}
use Rattle.std.proofs.lemmas.Bool.Decides.{same_from_decides}
use Rattle.std.proofs.lemmas.List.Elements.{All-contains, All-from_get_or, All-get_or}
use Rattle.std.proofs.lemmas.List.Elements.{Contains-get_or}
use Rattle.std.proofs.lemmas.Option.{get_or_from_slice_get, slice_get_within}
use Rattle.std.specs.Cmp.{booleans_Decides}
use Rattle.std.specs.List.{All, list_all}
use Rattle.hv_task.specs.declared.action.Action.{Action}
use Rattle.hv_task.specs.State.{AreBelow, has_atom, names_atom, state_of}
use Rattle.hv_task.specs.Strips.{IsOver, IsTask, Strips, atoms, is_goal, start_state}
use Rattle.hv_task.proofs.Places.{IsState-start_state, beq-Decides, has_all-Decides}
use Rattle.hv_task.proofs.Places.{has_atom-state_of, length-successor, names_atom-Decides}
use Rattle.hv_task.proofs.Places.{same_state}
use Rattle.hv_sets.specs.Query.{action_of, asked, in_operand, in_which, is_clash, may_apply}
use Rattle.hv_sets.specs.Truth.{is_same}
use Rattle.hv_sets.specs.declared.operand.Operand.{Operand}
use Rattle.hv_sets.specs.declared.operand.Which.{Which}
use Rattle.hv_sets.specs.declared.operand.Which.TheVariants as W
use Rattle.hv_sets.specs.declared.query.Query.{Query}
use Rattle.hv_bdd.specs.declared.asked.Asked.{Asked}
use Rattle.hv_bdd.specs.Nodes.{NodeList, in_node}
use Rattle.hv_bdd.specs.Order.{atom_at, place}
use Rattle.hv_bdd.specs.Reduced.{IsReduced}
use Rattle.hv_bdd.specs.Live.{TupleSetting, asked_of, asks_goal, changed_by, is_marked, bit_mark_of}
use Rattle.hv_bdd.specs.Live.{needed_by, operands_of, root, roots, tuple_setting_of, start_bit}
use Rattle.hv_bdd.specs.Working.Graphs.{AgreesWithNodes, Suits, in_asked, in_graph, matches}
use Rattle.hv_bdd.specs.Working.Graphs.{with_marks}
use Rattle.hv_bdd.proofs.Chained.{first_is, match_at, match_from}
use Rattle.hv_bdd.proofs.Marked.{mark_of-needed, mark_of-no_marks, over_action, over_none}
use Rattle.hv_bdd.specs.Working.Ordered.{order_of}

module _ (list : NodeList) (reduced : IsReduced list) (task : Strips) (query : Query)
    (size : list.atoms ≡ atoms task) where
  abbrev pub S : TupleSetting
  S = tuple_setting_of list task query

  abbrev pub sets : ℕ → List Bool → Bool
  sets = in_node list

  -- the chain of the initial state has that state alone
  start_is : (s : List Bool) → length s ≡ list.atoms
      → in_graph S W.Start s (root S W.Start) ≡ is_same (start_state task) s
  start_is s in_s =
      first_is list.atoms (atom_at list) (λ v. true) (start_bit S) s list.atoms 0 (omega arith)
      ∙ same_from_decides {P = start_state task ≡ s}
      (matches list.atoms (atom_at list) (λ v. true) (start_bit S) s list.atoms 0)
      (is_same (start_state task) s) (
        λ e. same_state (start_state task) s (IsState-start_state task ∙ (sym size ∙ sym in_s))
            (λ a less.
            let len = IsState-start_state task in
            let within : a < list.atoms = omega arith in
            let in_order = (order_of list reduced).place_in a within in
            let there = (order_of list reduced).there a within in
            let m = match_at list.atoms (atom_at list)
            (λ v. true) (start_bit S) s list.atoms 0 (place list a) e (omega arith)
            (omega arith) refl in
            sym (subst (λ x. has_atom s x ≡ has_atom (start_state task) x) there
            ((booleans_Decides (has_atom s (atom_at list (place list a)))
            (has_atom (start_state task) (atom_at list (place list a)))).0 m))),
        λ same. match_from list.atoms (atom_at list) (λ v. true) (start_bit S) s list.atoms 0
            (λ w from upto _.
            (booleans_Decides (has_atom s (atom_at list w))
            (has_atom (start_state task) (atom_at list w))).1
            (ap (λ x. has_atom x (atom_at list w)) (sym same))),
      )
      (beq-Decides (start_state task) s)

  -- the chain of the goal has the goal states
  goal_is : (s : List Bool) → AreBelow (atoms task) task.goal → length s ≡ list.atoms
      → in_graph S W.Goal s (root S W.Goal) ≡ is_goal task s
  goal_is s below in_s =
      first_is list.atoms (atom_at list) (asks_goal S) (λ v. true) s list.atoms 0 (omega arith)
      ∙ same_from_decides {P = All (λ p. has_atom s p ≡ true) task.goal}
      (matches list.atoms (atom_at list) (asks_goal S) (λ v. true) s list.atoms 0)
      (is_goal task s) (
        λ e. All-from_get_or (λ p. has_atom s p ≡ true) task.goal 0
            (λ k less.
            let a = get_or task.goal k 0 in
            let in_task : a < atoms task = All-get_or
            (λ n. n < atoms task) task.goal k 0 less below in
            let within : a < list.atoms = omega arith in
            let in_order = (order_of list reduced).place_in a within in
            let there = (order_of list reduced).there a within in
            let named = (names_atom-Decides task.goal a).1 (Contains-get_or task.goal k 0 less) in
            let asked : asks_goal S (place list a) ≡ true =
            ap (has_atom (state_of (atoms task) task.goal)) there
            ∙ (has_atom-state_of (atoms task) task.goal a in_task ∙ named) in
            let m = match_at list.atoms (atom_at list) (asks_goal S)
            (λ v. true) s list.atoms 0 (place list a) e (omega arith) (omega arith) asked in
            subst (λ x. has_atom s x ≡ true) there
            ((booleans_Decides (has_atom s (atom_at list (place list a))) true).0 m)),
        λ all. match_from list.atoms (atom_at list) (asks_goal S) (λ v. true) s list.atoms 0
            (λ w from upto asked.
            let within = (order_of list reduced).atom_in w (omega arith) in
            let named = sym (has_atom-state_of (atoms task) task.goal (atom_at list w)
            (omega arith)) ∙ asked in
            (booleans_Decides (has_atom s (atom_at list w)) true).1
            (All-contains (λ p. has_atom s p ≡ true) task.goal (atom_at list w) all
            ((names_atom-Decides task.goal (atom_at list w)).0 named))),
      )
      (has_all-Decides task.goal s)

  -- at its root each operand says what it is
  pub root_is : (w : Which) (s : List Bool) → AreBelow (atoms task) task.goal
      → length s ≡ list.atoms
      → in_graph S w s (root S w) ≡ in_which task sets w s
  root_is W.Empty s below in_s = refl
  root_is W.Start s below in_s = start_is s in_s
  root_is W.Goal s below in_s = goal_is s below in_s
  root_is (W.Set number) s below in_s = refl

  -- the state about which an operand is asked
  side_is : (action : Option Action) (after : Bool) (s : List Bool) → length s ≡ atoms task
      → cond after (with_marks (changed_by (atoms task) action) s) s ≡ asked action after s
  side_is (Some action) true s in_s = over_action (atoms task) action s in_s
  side_is None true s in_s = over_none (atoms task) s in_s
  side_is (Some action) false s in_s = refl
  side_is None false s in_s = refl

  length-side : (action : Option Action) (after : Bool) (s : List Bool)
      → length (asked action after s) ≡ length s
  length-side (Some action) true s = length-successor action s
  length-side None true s = refl
  length-side (Some action) false s = refl
  length-side None false s = refl

  each_is : (b : Bool) (o : Operand) (s : List Bool) → AreBelow (atoms task) task.goal
      → length s ≡ list.atoms
      → in_asked S (asked_of b o) s (root S o.which)
      ≡ in_operand task sets (action_of task query.action) s o
  each_is b o s below in_s =
      ap (λ x. in_graph S o.which x (root S o.which))
      (side_is (action_of task query.action) o.after s (in_s ∙ size))
      ∙ root_is o.which (asked (action_of task query.action) o.after s) below
      (length-side (action_of task query.action) o.after s ∙ in_s)

  -- whether the operands of a side are as they should be
  abbrev pub says : Bool → Bool → Bool
  says b x = cond b x (not x)

  says_is : (b x : Bool) → says b x ≡ true → x ≡ b
  says_is true x e = e
  says_is false x e = not-true x e

  is_says : (b x : Bool) → x ≡ b → says b x ≡ true
  is_says true x e = e
  is_says false x e = ap not e

  agrees_from : (b : Bool) (os : List Operand) (s : List Bool) → AreBelow (atoms task) task.goal
      → length s ≡ list.atoms
      → list_all (λ o. says b (in_operand task sets (action_of task query.action) s o)) os ≡ true
      → AgreesWithNodes (in_asked S) (λ o. o.positive) s (map (asked_of b) os)
      (roots S (map (asked_of b) os))
  agrees_from b [] s below in_s all = tt
  agrees_from b (o ∷ os) s below in_s all =
      let parts = and_parts (says b (in_operand task sets (action_of task query.action) s o))
      (list_all (λ o. says b (in_operand task sets (action_of task query.action) s o)) os)
      all in (
        each_is b o s below in_s ∙ says_is b
            (in_operand task sets (action_of task query.action) s o)
            parts.0,
        agrees_from b os s below in_s parts.1,
      )

  from_agrees : (b : Bool) (os : List Operand) (s : List Bool) → AreBelow (atoms task) task.goal
      → length s ≡ list.atoms
      → AgreesWithNodes (in_asked S) (λ o. o.positive) s (map (asked_of b) os)
      (roots S (map (asked_of b) os))
      → list_all (λ o. says b (in_operand task sets (action_of task query.action) s o)) os ≡ true
  from_agrees b [] s below in_s agrees = refl
  from_agrees b (o ∷ os) s below in_s agrees =
      and_from (says b (in_operand task sets (action_of task query.action) s o))
      (list_all (λ o. says b (in_operand task sets (action_of task query.action) s o)) os)
      (is_says b (in_operand task sets (action_of task query.action) s o)
      (sym (each_is b o s below in_s) ∙ agrees.0)) (from_agrees b os s below in_s agrees.1)

  both_sides : (os ps : List Asked) (s : List Bool)
      → AgreesWithNodes (in_asked S) (λ o. o.positive) s os (roots S os)
      → AgreesWithNodes (in_asked S) (λ o. o.positive) s ps (roots S ps)
      → AgreesWithNodes (in_asked S) (λ o. o.positive) s (os ++ ps) (roots S (os ++ ps))
  both_sides [] ps s first second = second
  both_sides (o ∷ os) ps s first second = (first.0, both_sides os ps s first.1 second)

  first_side : (os ps : List Asked) (s : List Bool)
      → AgreesWithNodes (in_asked S) (λ o. o.positive) s (os ++ ps) (roots S (os ++ ps))
      → AgreesWithNodes (in_asked S) (λ o. o.positive) s os (roots S os)
  first_side [] ps s all = tt
  first_side (o ∷ os) ps s all = (all.0, first_side os ps s all.1)

  second_side : (os ps : List Asked) (s : List Bool)
      → AgreesWithNodes (in_asked S) (λ o. o.positive) s (os ++ ps) (roots S (os ++ ps))
      → AgreesWithNodes (in_asked S) (λ o. o.positive) s ps (roots S ps)
  second_side [] ps s all = all
  second_side (o ∷ os) ps s all = second_side os ps s all.1

  -- the bits that an action needs
  needs : (action : Option Action) (s : List Bool) (a : ℕ) → a < atoms task
      → may_apply action s ≡ true
      → is_marked (bit_mark_of (needed_by (atoms task) action) a) (has_atom s a) ≡ true
  needs None s a less may = ap (λ m. is_marked m (has_atom s a))
      (mark_of-no_marks (atoms task) a less)
  needs (Some action) s a less may =
      ap (λ m. is_marked m (has_atom s a)) (mark_of-needed (atoms task) a action less)
      ∙ by (names_atom action.pre a) (λ named. All-contains
      (λ p. has_atom s p ≡ true) action.pre a ((has_all-Decides action.pre s).0 may)
      ((names_atom-Decides action.pre a).0 named))
    where
      by : (b : Bool) → (b ≡ true → has_atom s a ≡ true)
          → is_marked (cond b (Some true) None) (has_atom s a) ≡ true
      by true held = (booleans_Decides true (has_atom s a)).1 (sym (held refl))
      by false held = refl

  applies : (action : Option Action) (s : List Bool)
      → ((a : Action) → action ≡ Some a → AreBelow (atoms task) a.pre)
      → ((a : ℕ) → a < atoms task → is_marked (bit_mark_of (needed_by (atoms task) action) a)
      (has_atom s a) ≡ true) → may_apply action s ≡ true
  applies None s with_marks has = refl
  applies (Some action) s with_marks has =
      (has_all-Decides action.pre s).1
      (All-from_get_or (λ p. has_atom s p ≡ true) action.pre 0
      (λ k less.
      let a = get_or action.pre k 0 in
      let within : a < atoms task = All-get_or
      (λ n. n < atoms task) action.pre k 0 less (with_marks action refl) in
      let named = (names_atom-Decides action.pre a).1 (Contains-get_or action.pre k 0 less) in
      let mark = mark_of-needed (atoms task) a action within
      ∙ ap (λ b. cond b (Some true) None) named in
      sym ((booleans_Decides true (has_atom s a)).0
      (ap (λ m. is_marked m (has_atom s a)) (sym mark) ∙ has a within))))

  below_of : IsTask task → (number : Option ℕ) (action : Action)
      → action_of task number ≡ Some action → AreBelow (atoms task) action.pre
  below_of t None action e = let f : ◌≡◌ {A = Option Action} None (Some action) = e in absurd cc
  below_of t (Some number) action e =
      let within = slice_get_within task.actions number action e in
      let is = get_or_from_slice_get task.actions number action action e in
      subst (λ (a : Action). AreBelow (atoms task) a.pre) is
      (All-get_or (λ (a : Action). IsOver (atoms task) a) task.actions number action within
      t.actions).pre

  -- a counterexample suits the roots
  pub suits_from : (s : List Bool) → IsTask task → length s ≡ list.atoms
      → is_clash task sets query s ≡ true → Suits S (operands_of query) s
  suits_from s t in_s clash =
      let below = t.goal in
      let parts = and_parts (may_apply (action_of task query.action) s)
      (list_all (λ o. in_operand task sets (action_of task query.action) s o) query.positive
      && list_all (λ o. not (in_operand task sets (action_of task query.action) s o))
      query.negative) clash in
      let sides = and_parts (list_all (λ o. in_operand task sets (action_of task query.action) s o)
      query.positive)
      (list_all (λ o. not (in_operand task sets (action_of task query.action) s o)) query.negative)
      parts.1 in (
        (
          in_s,
          λ v less. let at = (order_of list reduced).atom_in v less in
              needs (action_of task query.action) s (atom_at list v) (omega arith) parts.0,
        ),
        both_sides (map (asked_of true) query.positive) (map (asked_of false) query.negative) s
            (agrees_from true query.positive s below in_s sides.0)
            (agrees_from false query.negative s below in_s sides.1),
      )

  -- and what suits them is one
  pub clash_from : (s : List Bool) → IsTask task → Suits S (operands_of query) s
      → is_clash task sets query s ≡ true
  clash_from s t suits =
      let below = t.goal in
      let in_s : length s ≡ list.atoms = suits.0.0 in
      and_from (may_apply (action_of task query.action) s)
      (list_all (λ o. in_operand task sets (action_of task query.action) s o) query.positive
      && list_all (λ o. not (in_operand task sets (action_of task query.action) s o))
      query.negative)
      (applies (action_of task query.action) s (below_of t query.action)
      (λ a less.
      let within : a < list.atoms = omega arith in
      let in_order = (order_of list reduced).place_in a within in
      subst (λ x. is_marked (bit_mark_of (needed_by (atoms task) (action_of task query.action)) x)
      (has_atom s x) ≡ true)
      ((order_of list reduced).there a within) (suits.0.1 (place list a) in_order)))
      (and_from (list_all (λ o. in_operand task sets (action_of task query.action) s o)
      query.positive)
      (list_all (λ o. not (in_operand task sets (action_of task query.action) s o)) query.negative)
      (from_agrees true query.positive s below in_s
      (first_side (map (asked_of true) query.positive) (map (asked_of false) query.negative) s
      suits.1))
      (from_agrees false query.negative s below in_s
      (second_side (map (asked_of true) query.positive) (map (asked_of false) query.negative) s
      suits.1)))
