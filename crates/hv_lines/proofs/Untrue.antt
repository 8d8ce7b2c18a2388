-- A true statement has no counterexample: the verdict false says that the statement isn't true.
use Rattle.std.proofs.Common.{◌≡◌, ℕ, zero, suc, ◌<◌, ◌∙◌, ◌&&◌, Bool, true, false, not, List, []}
use Rattle.std.proofs.Common.{◌∷◌, Option, Some, None, if◌then◌else◌, length, map, refl, sym, ap}
use Rattle.std.proofs.Common.{subst, inl, inr, arith}
use Rattle.std.proofs.lemmas.Bool.{and_parts as both_true}
use Rattle.std.proofs.lemmas.List.Elements.{Contains-append_cases}
use Rattle.std.proofs.lemmas.Option.{same_Some, slice_get-map}
use Rattle.std.specs.List.{Contains, list_all, slice_get}
use Rattle.hv_task.specs.declared.action.Action.{Action}
use Rattle.hv_task.specs.State.{applicable, successor}
use Rattle.hv_task.specs.Strips.{IsState, atoms}
use Rattle.hv_sets.specs.Query.{action_of, asked, in_operand, is_clash, may_apply}
use Rattle.hv_lines.specs.Literals.{IsLiteral}
use Rattle.hv_lines.specs.Meaning.{IsTrueStatement, acts_of, sets_of}
use Rattle.hv_lines.specs.Mixed.{in_signed}
use Rattle.hv_lines.specs.Numbering.{IsTable, SpeaksBelow, acts_count, expr_at, expr_count}
use Rattle.hv_lines.specs.Queries.{PassesBudget, actions_below, asked_actions, has_of, operand_of}
use Rattle.hv_lines.specs.Queries.{queries_of, query_of}
use Rattle.hv_lines.specs.Setting.{Setting}
use Rattle.hv_lines.specs.Shapes.{AreTwo, HasSides, IsAndLeaf, IsAsked, IsLeftLeaf, IsLiteralOf}
use Rattle.hv_lines.specs.Shapes.{IsOrLeaf, IsQuestion, IsRightLeaf, OfActs, OfSets, OfTwo}
use Rattle.hv_lines.specs.Shapes.{QuestionState, alone, and_parts, asks_sides_after}
use Rattle.hv_lines.specs.Shapes.{asks_step_after}
use Rattle.hv_lines.specs.Shapes.{family_of, of_left, of_right, or_parts, asked_step}
use Rattle.hv_lines.specs.Verdicts.{IsDecided, IsVerdict, IsVerdictOfActs, IsVerdictOfTwo}
use Rattle.hv_lines.specs.declared.line.Expr.{Expr}
use Rattle.hv_lines.specs.declared.line.Expr.TheVariants as E
use Rattle.hv_lines.specs.declared.line.Line.{Line}
use Rattle.hv_lines.specs.declared.line.Statement.{Statement}
use Rattle.hv_lines.specs.declared.line.Statement.TheVariants as T
use Rattle.hv_lines.specs.declared.line.Word.{Word}
use Rattle.hv_lines.specs.declared.line.Word.TheVariants as W
use Rattle.hv_lines.specs.declared.reason.Clash.{Clash}
use Rattle.hv_lines.specs.declared.verdict.Verdict.TheVariants as V
use Rattle.hv_lines.proofs.Bools.{not_out}
use Rattle.hv_lines.proofs.Elements.{each_mapped, got_in, got_mapped, slice_get_some}
use Rattle.hv_lines.proofs.Laws.{expr_below, expr_within, refers_before, set_in, set_out}
use Rattle.hv_lines.proofs.Ready.{some_below}
use Rattle.hv_lines.proofs.Shaped.{literal_to}
use Rattle.hv_lines.proofs.Truth.{after_is, and_is, asked_state, before_is, named, or_is, signed_in}

-- each action that is asked about is among the action set
chosen : (lines : List Line) (acts n number : ℕ)
    → Contains (actions_below lines acts n) (Some number) → acts_of lines acts number ≡ true
chosen lines acts zero number c = absurd (omega (arith, c.1))
chosen lines acts (suc n) number c =
    elim (Contains-append_cases (actions_below lines acts n)
    (if acts_of lines acts n then Some n ∷ [] else []) (Some number) c) [
      | inl before ↦ chosen lines acts n number before
      | inr here ↦ last (acts_of lines acts n) refl here
    ]
  where
    last : (among : Bool) → acts_of lines acts n ≡ among
        → Contains (if among then Some n ∷ [] else []) (Some number)
        → acts_of lines acts number ≡ true
    last true is (zero, below, e) = subst (λ k. acts_of lines acts k ≡ true) (same_Some n number e)
        is
    last true is (suc k, below, e) = absurd (omega (arith, below))
    last false is (k, below, e) = absurd (omega (arith, below))

-- without an action set there is one query, without an action
none_asked : (number : Option ℕ) → Contains (None ∷ []) number → number ≡ None
none_asked number (zero, below, e) = sym e
none_asked number (suc k, below, e) = absurd (omega (arith, below))

module _ (setting : Setting) (lines : List Line) (table : IsTable lines) where
  abbrev In : ℕ → List Bool → Type 0
  In set state = sets_of setting.task setting.nodes lines set state

  module _ (state : List Bool) where
    abbrev AllIn : ℕ → Type 0
    AllIn set = (leaf : ℕ) → IsAndLeaf lines set leaf → In leaf state

    abbrev NoneIn : ℕ → Type 0
    NoneIn set = (leaf : ℕ) → IsOrLeaf lines set leaf → In leaf state → ⊥

    -- a state that is in each intersection leaf of a set is in the set
    and_by : (set : ℕ) (x : Expr) → expr_at lines set ≡ Some x → AllIn set
        → ((part : ℕ) → part < set → part < expr_count lines → AllIn part → In part state)
        → (found : Option (ℕ × ℕ)) → and_parts x ≡ found → In set state
    and_by set x at each part None none = each set (alone set x at none)
    and_by set x at each part (Some (l, r)) has =
        let is : expr_at lines set ≡ Some (E.And l r) = at ∙ ap Some (and_is x l r has) in
        let back = refers_before lines set (E.And l r) table is in
        let here = expr_below lines set x table at in
        set_in setting.task setting.nodes lines set (E.And l r) table is state (
          part l back.0 (omega (arith, back.0, here))
              (λ leaf of. each leaf (of_left set l r leaf x at has of)),
          part r back.1 (omega (arith, back.1, here))
              (λ leaf of. each leaf (of_right set l r leaf x at has of)),
        )

    from_leaves : (n set : ℕ) → set < n → set < expr_count lines → AllIn set → In set state
    from_leaves zero set below there each = absurd (omega (arith, below))
    from_leaves (suc n) set below there each =
        let w = expr_within lines set table there in
        and_by set w.0 w.1 each (λ part less there_too all. from_leaves n part
        (omega (arith, less, below)) there_too all) (and_parts w.0) refl

    -- a state that is in no union leaf of a set isn't in the set
    or_by : (set : ℕ) (x : Expr) → expr_at lines set ≡ Some x → NoneIn set
        → ((part : ℕ) → part < set → part < expr_count lines → NoneIn part → In part state → ⊥)
        → (found : Option (ℕ × ℕ)) → or_parts x ≡ found → In set state → ⊥
    or_by set x at none part None alone_there inside = none set (alone set x at alone_there) inside
    or_by set x at none part (Some (l, r)) has inside =
        let is : expr_at lines set ≡ Some (E.Or l r) = at ∙ ap Some (or_is x l r has) in
        let back = refers_before lines set (E.Or l r) table is in
        let here = expr_below lines set x table at in
        elim (set_out setting.task setting.nodes lines set (E.Or l r) table is state inside) [
          | inl first ↦ part l back.0 (omega (arith, back.0, here))
              (λ leaf of. none leaf (of_left set l r leaf x at has of)) first
          | inr second ↦ part r back.1 (omega (arith, back.1, here))
              (λ leaf of. none leaf (of_right set l r leaf x at has of)) second
        ]

    outside_leaves : (n set : ℕ) → set < n → set < expr_count lines → NoneIn set → In set state → ⊥
    outside_leaves zero set below there none inside = absurd (omega (arith, below))
    outside_leaves (suc n) set below there none inside =
        let w = expr_within lines set table there in
        or_by set w.0 w.1 none (λ part less there_too all. outside_leaves n part
        (omega (arith, less, below)) there_too all) (or_parts w.0) refl inside

  module _ (word : Word) (left right : ℕ) (q : QuestionState) (is : IsQuestion lines word left right
      q)
      (number : Option ℕ) (act : Option Action) (is_action : action_of setting.task number ≡ act)
      (t : List Bool)
      (clash : is_clash setting.task (has_of setting lines q.family) (query_of lines q number) t
      ≡ true) where
    abbrev test : Option Action → ℕ × Bool → Bool
    test by a = in_operand setting.task (has_of setting lines q.family) by t (operand_of lines a)

    abbrev all_in : Option Action → Bool
    all_in by = list_all (λ o. in_operand setting.task (has_of setting lines q.family) by t o)
        (map (λ a. operand_of lines a) q.positive)

    abbrev none_in : Option Action → Bool
    none_in by = list_all (λ o. not (in_operand setting.task (has_of setting lines q.family) by t
        o)) (map (λ a. operand_of lines a) q.negative)

    parts : (may_apply act t && (all_in act && none_in act)) ≡ true
    parts = subst (λ (by : Option Action). (may_apply by t && (all_in by && none_in by)) ≡ true)
        is_action clash

    applies : may_apply act t ≡ true
    applies = (both_true (may_apply act t) (all_in act && none_in act) parts).0

    both : (all_in act ≡ true) × (none_in act ≡ true)
    both = both_true (all_in act) (none_in act)
        (both_true (may_apply act t) (all_in act && none_in act) parts).1

    asked_in : (a : ℕ × Bool) → IsAsked lines word left right true a → test act a ≡ true
    asked_in a there =
        each_mapped (λ o. in_operand setting.task (has_of setting lines q.family) act t o)
        (λ x. operand_of lines x) q.positive
        both.0 a ((is.positive a).1 there)

    asked_out : (a : ℕ × Bool) → IsAsked lines word left right false a → test act a ≡ true → ⊥
    asked_out a there =
        not_out (test act a)
        (each_mapped (λ o. not (in_operand setting.task (has_of setting lines q.family) act t o))
        (λ x. operand_of lines x) q.negative
        both.1 a ((is.negative a).1 there))

    -- the state that a literal on the left is asked about is in it
    left_in : (leaf : ℕ) (after : Bool) → IsLeftLeaf lines word left leaf after
        → IsLiteral lines leaf → In leaf (asked act after t)
    left_in leaf after side literal =
        let w = literal_to lines leaf literal in signed w.0 w.1 w.2
      where
        signed : (set : ℕ) (sign : Bool) → IsLiteralOf lines leaf set sign
            → In leaf (asked act after t)
        signed set true of =
            let there : IsAsked lines word left right true (set, after) = (leaf, inl (side, of)) in
            subst (λ s. In s (asked act after t)) (sym of.0)
            ((named setting lines table word left right q is true (set, after) there of.1
            (asked act after t)).0 (asked_in (set, after) there))
        signed set false of =
            let there : IsAsked lines word left right false (set, after) = (leaf, inl (side, of)) in
            set_in setting.task setting.nodes lines leaf (E.Not set) table of.0 (asked act after t)
            (λ inside. asked_out (set, after) there
            ((named setting lines table word left right q is false (set, after) there of.1
            (asked act after t)).1 inside))

    -- the state that a literal on the right is asked about isn't in it
    right_out : (leaf : ℕ) (after : Bool) → IsRightLeaf lines word right leaf after
        → IsLiteral lines leaf → In leaf (asked act after t) → ⊥
    right_out leaf after side literal inside =
        let w = literal_to lines leaf literal in signed w.0 w.1 w.2
      where
        signed : (set : ℕ) (sign : Bool) → IsLiteralOf lines leaf set sign → ⊥
        signed set true of =
            let there : IsAsked lines word left right false (set, after) = (leaf, inr (side, of)) in
            asked_out (set, after) there
            ((named setting lines table word left right q is false (set, after) there of.1
            (asked act after t)).1
            (subst (λ s. In s (asked act after t)) of.0 inside))
        signed set false of =
            let there : IsAsked lines word left right true (set, after) = (leaf, inr (side, of)) in
            set_out setting.task setting.nodes lines leaf (E.Not set) table of.0 (asked act after t)
            inside
            ((named setting lines table word left right q is true (set, after) there of.1
            (asked act after t)).0 (asked_in (set, after) there))

  module _ (word : Word) (left right : ℕ) (q : QuestionState) (is : IsQuestion lines word left right
      q)
      (left_there : left < expr_count lines) (right_there : right < expr_count lines)
      (claim : IsTrueStatement setting.task setting.nodes lines (T.Sub left right)) where
    abbrev Clashes : Option ℕ → List Bool → Type 0
    Clashes number t = is_clash setting.task (has_of setting lines q.family)
        (query_of lines q number) t ≡ true

    -- `b1`
    none_alone : q.acts ≡ None → (t : List Bool) → IsState setting.task t → Clashes None t → ⊥
    none_alone by t is_state clash =
        let sides = subst (HasSides lines word left right) by is.sides in
        let early : asks_sides_after word ≡ false = ap asks_sides_after sides.0 in
        outside_leaves t (suc right) right (omega arith) right_there
        (λ leaf of. right_out word left right q is None None refl t clash leaf false (of, sym early)
        (sides.2 leaf of))
        (claim t is_state (from_leaves t (suc left) left (omega arith) left_there
        (λ leaf of. left_in word left right q is None None refl t clash leaf false
        (inl (of, sym early)) (sides.1 leaf of))))

    -- `b2` and `b3`
    module _ (acts : ℕ) (by : q.acts ≡ Some acts) (number : ℕ) (action : Action)
        (named_so : slice_get setting.task.actions number ≡ Some action)
        (among : acts_of lines acts number ≡ true)
        (t : List Bool) (is_state : IsState setting.task t) (clash : Clashes (Some number) t) where
      sides : HasSides lines word left right (Some acts)
      sides = subst (HasSides lines word left right) by is.sides

      applied : applicable action t ≡ true
      applied = applies word left right q is (Some number) (Some action) named_so t clash

      -- the state that is asked about is in the set of the step
      set_has : sides.1 < expr_count lines → In sides.1
          (asked (Some action) (asks_step_after word) t)
      set_has there =
          from_leaves (asked (Some action) (asks_step_after word) t) (suc sides.1) sides.1
          (omega arith) there
          (λ leaf of. left_in word left right q is (Some number) (Some action) named_so t clash leaf
          (asks_step_after word)
          (inr (sides.0, sides.1, acts, sides.2, sides.3, of, refl)) (sides.5 leaf of))

      -- so the state is in the step
      step_has : (w : Word) → word ≡ w → In sides.0 (asked (Some action) (asks_sides_after word) t)
      step_has W.B2 same =
          let at : expr_at lines sides.0 ≡ Some (E.After sides.1 acts) =
          sides.3.1 ∙ ap Some (after_is sides.3.0 sides.1 acts
          (subst (λ w. asked_step w sides.3.0 ≡ Some (sides.1, acts)) same sides.3.2)) in
          let back = refers_before lines sides.0 (E.After sides.1 acts) table at in
          let here = expr_below lines sides.0 (E.After sides.1 acts) table at in
          let late : asks_sides_after word ≡ true = ap asks_sides_after same in
          let early : asks_step_after word ≡ false = ap asks_step_after same in
          subst (λ b. In sides.0 (asked (Some action) b t)) (sym late)
          (set_in setting.task setting.nodes lines sides.0 (E.After sides.1 acts) table at
          (successor action t) (record {
            before = t;
            is_state = is_state;
            inside = subst (λ b. In sides.1 (asked (Some action) b t)) early
                (set_has (omega (arith, back.0, here)));
            number = number;
            action = action;
            among = among;
            named = named_so;
            applies = applied;
            result = refl;
          }))
      step_has W.B3 same =
          let at : expr_at lines sides.0 ≡ Some (E.Before sides.1 acts) =
          sides.3.1 ∙ ap Some (before_is sides.3.0 sides.1 acts
          (subst (λ w. asked_step w sides.3.0 ≡ Some (sides.1, acts)) same sides.3.2)) in
          let back = refers_before lines sides.0 (E.Before sides.1 acts) table at in
          let here = expr_below lines sides.0 (E.Before sides.1 acts) table at in
          let early : asks_sides_after word ≡ false = ap asks_sides_after same in
          let late : asks_step_after word ≡ true = ap asks_step_after same in
          subst (λ b. In sides.0 (asked (Some action) b t)) (sym early)
          (set_in setting.task setting.nodes lines sides.0 (E.Before sides.1 acts) table at t
          (record {
            number = number;
            action = action;
            among = among;
            named = named_so;
            applies = applied;
            inside = subst (λ b. In sides.1 (asked (Some action) b t)) late
                (set_has (omega (arith, back.0, here)));
          }))
      step_has _ same =
          let none = subst (λ w. asked_step w sides.3.0 ≡ Some (sides.1, acts)) same sides.3.2 in
          cc (none)

      none_by : ⊥
      none_by =
          let beside : List Bool = asked (Some action) (asks_sides_after word) t in
          outside_leaves beside (suc right) right (omega arith) right_there
          (λ leaf of. right_out word left right q is (Some number) (Some action) named_so t clash
          leaf (asks_sides_after word) (of, refl) (sides.6 leaf of))
          (claim beside (asked_state setting lines table (Some action) t is_state
          (asks_sides_after word))
          (from_leaves beside (suc left) left (omega arith) left_there
          (λ leaf of. elim (sides.4 leaf of) [
            | inl literal ↦
                left_in word left right q is (Some number) (Some action) named_so t clash leaf
                (asks_sides_after word) (inl (of, refl)) literal
            | inr same ↦ subst (λ s. In s beside) (sym same) (step_has word refl)
          ])))

    with_acts : (acts : ℕ) → q.acts ≡ Some acts → (number : Option ℕ)
        → Contains (asked_actions setting.task lines (Some acts)) number
        → (t : List Bool) → IsState setting.task t → Clashes number t → ⊥
    with_acts acts by number there t is_state clash =
        let w = some_below lines acts (length setting.task.actions) number there in
        let a = slice_get_some setting.task.actions w.0 w.2 in
        none_by acts by w.0 a.0 a.1
        (chosen lines acts (length setting.task.actions) w.0
        (subst (Contains (asked_actions setting.task lines (Some acts))) w.1 there))
        t is_state (subst (λ n. Clashes n t) w.1 clash)

    by_acts : (acts : Option ℕ) → q.acts ≡ acts → (number : Option ℕ)
        → Contains (asked_actions setting.task lines acts) number
        → (t : List Bool) → IsState setting.task t → Clashes number t → ⊥
    by_acts None by number there t is_state clash = none_alone by t is_state
        (subst (λ n. Clashes n t) (none_asked number there) clash)
    by_acts (Some acts) by number there t is_state clash = with_acts acts by number there t is_state
        clash

    -- no query of a true statement has a counterexample
    pub no_counterexample : (number : Option ℕ)
        → Contains (asked_actions setting.task lines q.acts) number
        → (t : List Bool) → IsState setting.task t → Clashes number t → ⊥
    no_counterexample number there t is_state clash = by_acts q.acts refl number there t is_state
        clash

    untrue_sets : (found : Clash) → IsDecided (PassesBudget setting lines q.family)
        (is_clash setting.task (has_of setting lines q.family)) (atoms setting.task)
        (queries_of setting.task lines q) (V.False found) → ⊥
    untrue_sets found (query, first, upto, (action, (state, shown, size, clash))) =
        let w = got_mapped (query_of lines q)
        (slice_get (asked_actions setting.task lines q.acts) first.0) query
        (sym (slice_get-map (query_of lines q) (asked_actions setting.task lines q.acts) first.0)
        ∙ first.1) in
        no_counterexample w.0 (got_in (asked_actions setting.task lines q.acts) first.0 w.0 w.1)
        state size
        (subst (λ x. is_clash setting.task (has_of setting lines q.family) x state ≡ true) (sym w.2)
        clash)

  -- `b4`
  untrue_two : (left right : ℕ) (x y : ℕ × Bool) (found : Clash) → AreTwo lines left right x y
      → IsVerdictOfTwo setting lines x y (V.False found)
      → IsTrueStatement setting.task setting.nodes lines (T.Sub left right) → ⊥
  untrue_two left right x y found shaped (
    a,
    b,
    at_a,
    at_b,
    (affordable, none, (state, shown, size, between)),
  ) claim =
      let (f, g, of_f, of_g, apart) = shaped.families in
      let family_a : family_of a ≡ Some f = subst
      (λ e. family_of e ≡ Some f) (same_Some of_f.0 a (sym of_f.1 ∙ at_a)) of_f.2 in
      let family_b : family_of b ≡ Some g = subst
      (λ e. family_of e ≡ Some g) (same_Some of_g.0 b (sym of_g.1 ∙ at_b)) of_g.2 in
      let both = both_true (in_signed setting (a, x.1) state)
      (not (in_signed setting (b, y.1) state)) between in
      not_out (in_signed setting (b, y.1) state) both.1
      ((signed_in setting lines table right y.0 y.1 b g shaped.right_is at_b family_b state).1
      (claim state size ((signed_in setting lines table left x.0 x.1 a f shaped.left_is at_a
      family_a state).0 both.0)))

  -- `b5`
  untrue_acts : (left right : ℕ) (found : Clash)
      → IsVerdictOfActs setting.task lines left right (V.False found)
      → IsTrueStatement setting.task setting.nodes lines (T.ActSub left right) → ⊥
  untrue_acts left right found (number, named_so, none, out, least) claim =
      let both : true ≡ false = sym (claim number out.0 out.1) ∙ out.2 in
      cc (both)

  -- a statement with the verdict false isn't true
  pub verdict_false : (statement : Statement) (word : Word) (found : Clash)
      → SpeaksBelow (acts_count lines) (expr_count lines) statement
      → IsVerdict setting lines statement word (V.False found)
      → IsTrueStatement setting.task setting.nodes lines statement → ⊥
  verdict_false (T.Sub left right) word found there (OfSets w q, shaped, is) claim =
      untrue_sets word left right q shaped.1 there.0 there.1 claim found is.1
  verdict_false (T.Sub left right) word found there (OfTwo x y, shaped, is) claim = untrue_two left
      right x y found shaped.1 is claim
  verdict_false (T.Sub left right) word found there (OfActs a b, shaped, is) claim = absurd shaped
  verdict_false (T.ActSub left right) W.B5 found there (OfActs a b, shaped, is) claim =
      untrue_acts left right found (subst (λ x. IsVerdictOfActs setting.task lines x right
      (V.False found)) shaped.0
      (subst (λ x. IsVerdictOfActs setting.task lines a x (V.False found)) shaped.1 is)) claim
  verdict_false (T.ActSub left right) W.B5 found there (OfSets w q, shaped, is) claim = absurd
      shaped
  verdict_false (T.ActSub left right) W.B5 found there (OfTwo x y, shaped, is) claim = absurd shaped
  verdict_false (T.ActSub left right) _ found there (basic, shaped, is) claim = absurd shaped
  verdict_false (T.Dead set) word found there (basic, shaped, is) claim = absurd shaped
  verdict_false T.Unsolvable word found there (basic, shaped, is) claim = absurd shaped
