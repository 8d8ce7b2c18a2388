-- What the verdict true says: the statement is true.
use Rattle.std.proofs.Common.{◌≡◌, ℕ, zero, suc, ◌<◌, ◌∙◌, ◌⊎◌, ◌↔◌, ◌++◌, ◌&&◌, Bool, true, false}
use Rattle.std.proofs.Common.{not, List, [], ◌∷◌, Option, Some, None, if◌then◌else◌, length, map}
use Rattle.std.proofs.Common.{refl, sym, ap, subst, inl, inr, arith}
use Rattle.std.proofs.lemmas.Bool.{and_from, cases_lt}
use Rattle.std.proofs.lemmas.List.Elements.{Contains-push, Contains-append_left}
use Rattle.std.proofs.lemmas.Option.{same_Some, slice_get-get_or, slice_get-map, slice_get_within}
use Rattle.std.specs.List.{Contains, list_all, slice_get}
use Rattle.std.specs.Option.{option_map}
use Rattle.hv_task.specs.declared.action.Action.{Action}
use Rattle.hv_task.specs.State.{successor}
use Rattle.hv_task.specs.Strips.{IsState, atoms}
use Rattle.hv_task.proofs.Places.{IsState-successor}
use Rattle.hv_sets.specs.Query.{action_of, asked, in_operand, in_which, is_clash, may_apply}
use Rattle.hv_sets.specs.declared.query.Query.{Query}
use Rattle.hv_sets.proofs.Listed.{in_states-Decides}
use Rattle.hv_lines.specs.Literals.{IsPlainSet}
use Rattle.hv_lines.specs.Meaning.{IsTrueStatement, acts_of, holds, sets_of}
use Rattle.hv_lines.specs.Mixed.{in_line_formula, in_signed}
use Rattle.hv_lines.specs.Numbering.{IsTable, expr_at}
use Rattle.hv_lines.specs.Queries.{actions_below, asked_actions, has_of, operand_of, queries_of}
use Rattle.hv_lines.specs.Queries.{query_of, which_at, PassesBudget}
use Rattle.hv_lines.specs.Setting.{Setting}
use Rattle.hv_lines.specs.Shapes.{AreTwo, OfSets, OfTwo, OfActs, HasSides, IsAndLeaf, IsAsked}
use Rattle.hv_lines.specs.Shapes.{IsLeftLeaf, IsOrLeaf, IsQuestion, IsLiteralOf, IsRightLeaf}
use Rattle.hv_lines.specs.Shapes.{IsStep, QuestionState, and_parts, or_parts, after_parts}
use Rattle.hv_lines.specs.Shapes.{before_parts}
use Rattle.hv_lines.specs.Shapes.{asks_sides_after, asks_step_after, family_of, asked_step, alone}
use Rattle.hv_lines.specs.Shapes.{of_left, of_right}
use Rattle.hv_lines.specs.Verdicts.{DecidesNothing, IsVerdict, IsVerdictOfActs, IsVerdictOfTwo}
use Rattle.hv_lines.specs.declared.formula_family.FormulaFamily.{FormulaFamily}
use Rattle.hv_lines.specs.declared.line.Expr.{Expr}
use Rattle.hv_lines.specs.declared.line.Expr.TheVariants as E
use Rattle.hv_lines.specs.declared.line.Line.{Line}
use Rattle.hv_lines.specs.declared.line.Statement.{Statement}
use Rattle.hv_lines.specs.declared.line.Statement.TheVariants as T
use Rattle.hv_lines.specs.declared.line.Word.{Word}
use Rattle.hv_lines.specs.declared.line.Word.TheVariants as W
use Rattle.hv_lines.specs.declared.verdict.Verdict.TheVariants as V
use Rattle.hv_lines.proofs.Decided.{set_stable}
use Rattle.hv_lines.proofs.Laws.{set_in, set_out}
use Rattle.hv_lines.proofs.Named.{plain_in}
use Rattle.hv_lines.proofs.Questions.{alone_no_step}
use Rattle.hv_lines.proofs.Shaped.{step_no_literal, step_once}

-- what an expression is that has these parts

joined : (f : ℕ → ℕ → Expr) (p q : ℕ × ℕ) → Some p ≡ Some q → f p.0 p.1 ≡ f q.0 q.1
joined f p q is = ap (λ (x : ℕ × ℕ). f x.0 x.1) (same_Some p q is)

pub and_is : (x : Expr) (l r : ℕ) → and_parts x ≡ Some (l, r) → x ≡ E.And l r
and_is (E.And a b) l r is = joined (λ x y. E.And x y) (a, b) (l, r) is
and_is _ l r is = absurd (cc (is))

pub or_is : (x : Expr) (l r : ℕ) → or_parts x ≡ Some (l, r) → x ≡ E.Or l r
or_is (E.Or a b) l r is = joined (λ x y. E.Or x y) (a, b) (l, r) is
or_is _ l r is = absurd (cc (is))

pub after_is : (x : Expr) (l r : ℕ) → after_parts x ≡ Some (l, r) → x ≡ E.After l r
after_is (E.After a b) l r is = joined (λ x y. E.After x y) (a, b) (l, r) is
after_is _ l r is = absurd (cc (is))

pub before_is : (x : Expr) (l r : ℕ) → before_parts x ≡ Some (l, r) → x ≡ E.Before l r
before_is (E.Before a b) l r is = joined (λ x y. E.Before x y) (a, b) (l, r) is
before_is _ l r is = absurd (cc (is))

-- tests

not_true : (b : Bool) → (b ≡ true → ⊥) → not b ≡ true
not_true true out = absurd (out refl)
not_true false out = refl

all_mapped : {A B : Type 0} (p : B → Bool) (f : A → B) (xs : List A)
    → ((a : A) → Contains xs a → p (f a) ≡ true) → list_all p (map f xs) ≡ true
all_mapped p f [] each = refl
all_mapped p f (x ∷ xs) each =
    and_from (p (f x)) (list_all p (map f xs)) (each x (0, omega arith, refl))
    (all_mapped p f xs (λ a c. each a (suc c.0, omega (arith, c.1), c.2)))

module _ (setting : Setting) (lines : List Line) (table : IsTable lines) where
  In : ℕ → List Bool → Type 0
  In set state = sets_of setting.task setting.nodes lines set state

  -- a state of a set is in each intersection leaf of it, and a state of a union leaf is in the set

  in_leaf : (set leaf : ℕ) → IsAndLeaf lines set leaf → (state : List Bool) → In set state
      → In leaf state
  unfolding In
  in_leaf _ _ (alone set x at none) state inside = inside
  in_leaf _ leaf (of_left set left right l x at has of) state inside =
      let is : expr_at lines set ≡ Some (E.And left right) = at
      ∙ ap Some (and_is x left right has) in
      in_leaf left leaf of state (set_out setting.task setting.nodes lines set (E.And left right)
      table is state inside).0
  in_leaf _ leaf (of_right set left right l x at has of) state inside =
      let is : expr_at lines set ≡ Some (E.And left right) = at
      ∙ ap Some (and_is x left right has) in
      in_leaf right leaf of state (set_out setting.task setting.nodes lines set (E.And left right)
      table is state inside).1

  from_leaf : (set leaf : ℕ) → IsOrLeaf lines set leaf → (state : List Bool) → In leaf state
      → In set state
  unfolding In
  from_leaf _ _ (alone set x at none) state inside = inside
  from_leaf _ leaf (of_left set left right l x at has of) state inside =
      let is : expr_at lines set ≡ Some (E.Or left right) = at ∙ ap Some (or_is x left right has) in
      set_in setting.task setting.nodes lines set (E.Or left right) table is state
      (inl (from_leaf left leaf of state inside))
  from_leaf _ leaf (of_right set left right l x at has of) state inside =
      let is : expr_at lines set ≡ Some (E.Or left right) = at ∙ ap Some (or_is x left right has) in
      set_in setting.task setting.nodes lines set (E.Or left right) table is state
      (inr (from_leaf right leaf of state inside))

  module _ (word : Word) (left right : ℕ) (q : QuestionState) (is : IsQuestion lines word left right
      q)
    where
      abbrev Has : ℕ → List Bool → Bool
      Has set state = in_which setting.task (has_of setting lines q.family) (which_at lines set)
          state

      pub named : (sign : Bool) (a : ℕ × Bool) → IsAsked lines word left right sign a
          → IsPlainSet lines a.0 → (state : List Bool)
          → (Has a.0 state ≡ true) ↔ sets_of setting.task setting.nodes lines a.0 state
      named sign a there (x, at, plain) state =
          let within = is.family.within sign a there in
          let same : within.0 ≡ x = cc (within.1, at) in
          plain_in setting lines q.family a.0 x table at plain
          (subst (λ y. (family_of y ≡ None) ⊎ (family_of y ≡ Some q.family)) same within.2) state

      module _ (act : Option Action) (t : List Bool)
          (is_state : (after : Bool) → IsState setting.task (asked act after t))
          (lefts : (leaf : ℕ) (after : Bool) → IsLeftLeaf lines word left leaf after
          → In leaf (asked act after t))
          (rights : (leaf : ℕ) (after : Bool) → IsRightLeaf lines word right leaf after
          → In leaf (asked act after t) → ⊥) where
        positive_in : (a : ℕ × Bool) → IsAsked lines word left right true a
            → Has a.0 (asked act a.1 t) ≡ true
        unfolding In
        positive_in a (leaf, inl (side, literal)) =
            (named true a (leaf, inl (side, literal)) literal.1 (asked act a.1 t)).1
            (subst (λ s. In s (asked act a.1 t)) literal.0 (lefts leaf a.1 side))
        positive_in a (leaf, inr (side, literal)) =
            (named true a (leaf, inr (side, literal)) literal.1 (asked act a.1 t)).1
            (set_stable setting.task setting.nodes lines a.0 (asked act a.1 t) (is_state a.1)
            (λ out. rights leaf a.1 side (set_in setting.task setting.nodes lines leaf (E.Not a.0)
            table literal.0 (asked act a.1 t) out)))

        negative_out : (a : ℕ × Bool) → IsAsked lines word left right false a
            → Has a.0 (asked act a.1 t) ≡ true → ⊥
        unfolding In
        negative_out a (leaf, inl (side, literal)) has =
            set_out setting.task setting.nodes lines leaf (E.Not a.0) table literal.0
            (asked act a.1 t) (lefts leaf a.1 side)
            ((named false a (leaf, inl (side, literal)) literal.1 (asked act a.1 t)).0 has)
        negative_out a (leaf, inr (side, literal)) has =
            rights leaf a.1 side
            (subst (λ s. In s (asked act a.1 t)) (sym literal.0)
            ((named false a (leaf, inr (side, literal)) literal.1 (asked act a.1 t)).0 has))

        -- the state is a counterexample to the query of the action
        clash_true : (number : Option ℕ) → action_of setting.task number ≡ act
            → may_apply act t ≡ true
            → is_clash setting.task (has_of setting lines q.family) (query_of lines q number) t
            ≡ true
        clash_true number acts applies =
            subst (λ (x : Option Action). (may_apply x t
            && (list_all (λ o. in_operand setting.task (has_of setting lines q.family) x t o)
            (map (λ a. operand_of lines a) q.positive)
            && list_all (λ o. not (in_operand setting.task (has_of setting lines q.family) x t o))
            (map (λ a. operand_of lines a) q.negative))) ≡ true)
            (sym acts)
            (and_from (may_apply act t)
            (list_all (λ o. in_operand setting.task (has_of setting lines q.family) act t o)
            (map (λ a. operand_of lines a) q.positive)
            && list_all (λ o. not (in_operand setting.task (has_of setting lines q.family) act t o))
            (map (λ a. operand_of lines a) q.negative))
            applies
            (and_from (list_all (λ o. in_operand setting.task (has_of setting lines q.family) act t
            o)
            (map (λ a. operand_of lines a) q.positive))
            (list_all (λ o. not (in_operand setting.task (has_of setting lines q.family) act t o))
            (map (λ a. operand_of lines a) q.negative))
            (all_mapped (λ o. in_operand setting.task (has_of setting lines q.family) act t o)
            (λ a. operand_of lines a) q.positive
            (λ a c. positive_in a ((is.positive a).0 c)))
            (all_mapped (λ o. not (in_operand setting.task (has_of setting lines q.family) act t o))
            (λ a. operand_of lines a) q.negative
            (λ a c. not_true (Has a.0 (asked act a.1 t)) (negative_out a ((is.negative a).0 c))))))

-- there is a query for each action of the action set
asked_for : (lines : List Line) (acts number n : ℕ) → number < n → acts_of lines acts number ≡ true
    → Contains (actions_below lines acts n) (Some number)
asked_for lines acts number zero below among = absurd (omega (arith, below))
asked_for lines acts number (suc n) below among =
    elim (cases_lt number n) [
      | inl less ↦ Contains-append_left (actions_below lines acts n)
          (if acts_of lines acts n then Some n ∷ [] else []) (Some number)
          (asked_for lines acts number n less among)
      | inr upto ↦
          let same : number ≡ n = omega (arith, upto, below) in
          let is : acts_of lines acts n ≡ true = subst
          (λ k. acts_of lines acts k ≡ true) same among in
          subst (λ b. Contains (actions_below lines acts n ++ (if b then Some n ∷ [] else []))
          (Some number)) (sym is)
          (subst (λ k. Contains (actions_below lines acts n ++ Some n ∷ []) (Some k)) (sym same)
          (Contains-push (actions_below lines acts n) (Some n)))
    ]

query_there : (setting : Setting) (lines : List Line) (q : QuestionState) (actions : List (Option
    ℕ))
    (action : Option ℕ) → Contains actions action
    → (place : ℕ) × (slice_get (map (query_of lines q) actions) place
    ≡ Some (query_of lines q action))
query_there setting lines q actions action c = (
  c.0,
  slice_get-map (query_of lines q) actions c.0
      ∙ ap (λ x. option_map (query_of lines q) x)
      (slice_get-get_or actions c.0 action c.1 ∙ ap Some c.2),
)

module _ (setting : Setting) (lines : List Line) (table : IsTable lines) where
  Within : ℕ → List Bool → Type 0
  Within set state = sets_of setting.task setting.nodes lines set state

  pub asked_state : (act : Option Action) (t : List Bool) → IsState setting.task t → (after : Bool)
      → IsState setting.task (asked act after t)
  asked_state None t is_state true = is_state
  asked_state None t is_state false = is_state
  asked_state (Some a) t is_state true = IsState-successor setting.task a t is_state
  asked_state (Some a) t is_state false = is_state

  module _ (word : Word) (left right : ℕ) (q : QuestionState) (is : IsQuestion lines word left right
      q)
      (settled : (place : ℕ) (query : Query)
      → slice_get (queries_of setting.task lines q) place ≡ Some query
      → DecidesNothing (PassesBudget setting lines q.family)
      (is_clash setting.task (has_of setting lines q.family)) (atoms setting.task) query) where
    -- no query has a counterexample
    no_clash : (number : Option ℕ) (act : Option Action) (t : List Bool) → IsState setting.task t
        → Contains (asked_actions setting.task lines q.acts) number
        → action_of setting.task number ≡ act → may_apply act t ≡ true
        → ((leaf : ℕ) (after : Bool) → IsLeftLeaf lines word left leaf after
        → Within leaf (asked act after t))
        → ((leaf : ℕ) (after : Bool) → IsRightLeaf lines word right leaf after
        → Within leaf (asked act after t) → ⊥) → ⊥
    unfolding Within In
    no_clash number act t is_state there acts applies lefts rights =
        let found = query_there setting lines q (asked_actions setting.task lines q.acts) number
        there in
        let clash = clash_true setting lines table word left right q is act t
        (asked_state act t is_state) lefts rights number acts applies in
        let none = (settled found.0 (query_of lines q number) found.1).1 t is_state in
        let both : true ≡ false = sym clash ∙ none in
        cc (both)

    -- `b1`
    alone_true : (by : Option ℕ) → q.acts ≡ by → by ≡ None → (state : List Bool)
        → IsState setting.task state
        → Within left state → (Within right state → ⊥) → ⊥
    unfolding Within In
    alone_true by acts none state is_state inside out =
        let no_acts : q.acts ≡ None = acts ∙ none in
        let b1 : word ≡ W.B1 = (subst (HasSides lines word left right) no_acts is.sides).0 in
        no_clash None None state is_state
        (subst (λ x. Contains (asked_actions setting.task lines x) None) (sym no_acts)
        (0, omega arith, refl))
        refl refl
        (λ leaf after side. elim side [
          | inl here ↦ stay leaf after (in_leaf setting lines table left leaf here.0 state inside)
          | inr there ↦ absurd (alone_no_step lines word left right there.0 there.1 there.2 b1
              there.4)
        ])
        (λ leaf after side within. out (from_leaf setting lines table right leaf side.0 state
        (back leaf after within)))
      where
        stay : (leaf : ℕ) (after : Bool) → Within leaf state → Within leaf (asked None after state)
        stay leaf true h = h
        stay leaf false h = h

        back : (leaf : ℕ) (after : Bool) → Within leaf (asked None after state) → Within leaf state
        back leaf true h = h
        back leaf false h = h

    module _ (acts : ℕ) (by : q.acts ≡ Some acts) (state : List Bool)
        (is_state : IsState setting.task state)
        (inside : Within left state) (out : Within right state → ⊥) where
      abbrev Sides : Type 0
      Sides = HasSides lines word left right (Some acts)

      sides : Sides
      sides = subst (HasSides lines word left right) by is.sides

      -- what is in the set of the step is in each leaf of it
      in_step : (step set leaf number : ℕ) → IsAndLeaf lines left step
          → IsStep lines word step set number → IsAndLeaf lines set leaf
          → (only : Sides) → (s : List Bool) → Within (only.1) s → Within leaf s
      unfolding Within In
      in_step step set leaf number of is_step leaf_of only s within =
          elim (only.4 step of) [
            | inl literal ↦ absurd (step_no_literal lines word step set number is_step literal)
            | inr same ↦
                let one : set ≡ only.1 = (step_once lines word only.0 set number only.1 acts
                (subst (λ x. IsStep lines word x set number) same is_step) only.3).0 in
                in_leaf setting lines table only.1 leaf
                (subst (λ x. IsAndLeaf lines x leaf) one leaf_of) s within
          ]

      there : (number : ℕ) → number < length setting.task.actions → acts_of lines acts number ≡ true
          → Contains (asked_actions setting.task lines q.acts) (Some number)
      there number below among =
          subst (λ x. Contains (asked_actions setting.task lines x) (Some number)) (sym by)
          (asked_for lines acts number (length setting.task.actions) below among)

      -- `b2`
      after_true : (only : Sides) → word ≡ W.B2 → ⊥
      unfolding Within In
      after_true only b2 =
          let is_after : expr_at lines only.0 ≡ Some (E.After only.1 acts) =
          only.3.1 ∙ ap Some (after_is only.3.0 only.1 acts
          (subst (λ w. asked_step w only.3.0 ≡ Some (only.1, acts)) b2 only.3.2)) in
          let r = set_out setting.task setting.nodes lines only.0 (E.After only.1 acts) table
          is_after state
          (in_leaf setting lines table left only.0 only.2 state inside) in
          let after : asks_sides_after word ≡ true = ap asks_sides_after b2 in
          let before : asks_step_after word ≡ false = ap asks_step_after b2 in
          no_clash (Some r.number) (Some r.action) r.before r.is_state
          (there r.number (slice_get_within setting.task.actions r.number r.action r.named) r.among)
          r.named r.applies
          (λ leaf late side. elim side [
            | inl here ↦
                subst (λ b. Within leaf (asked (Some r.action) b r.before)) (sym (here.1 ∙ after))
                (subst (Within leaf) (sym r.result)
                (in_leaf setting lines table left leaf here.0 state inside))
            | inr step ↦
                subst (λ b. Within leaf (asked (Some r.action) b r.before)) (sym (step.6 ∙ before))
                (in_step step.0 step.1 leaf step.2 step.3 step.4 step.5 only r.before r.inside)
          ])
          (λ leaf late side within. out (from_leaf setting lines table right leaf side.0 state
          (subst (Within leaf) r.result (subst
          (λ b. Within leaf (asked (Some r.action) b r.before)) (side.1 ∙ after) within))))

      -- `b3`
      before_true : (only : Sides) → word ≡ W.B3 → ⊥
      unfolding Within In
      before_true only b3 =
          let is_before : expr_at lines only.0 ≡ Some (E.Before only.1 acts) =
          only.3.1 ∙ ap Some (before_is only.3.0 only.1 acts
          (subst (λ w. asked_step w only.3.0 ≡ Some (only.1, acts)) b3 only.3.2)) in
          let r = set_out setting.task setting.nodes lines only.0 (E.Before only.1 acts) table
          is_before state
          (in_leaf setting lines table left only.0 only.2 state inside) in
          let before : asks_sides_after word ≡ false = ap asks_sides_after b3 in
          let after : asks_step_after word ≡ true = ap asks_step_after b3 in
          no_clash (Some r.number) (Some r.action) state is_state
          (there r.number (slice_get_within setting.task.actions r.number r.action r.named) r.among)
          r.named r.applies
          (λ leaf late side. elim side [
            | inl here ↦
                subst (λ b. Within leaf (asked (Some r.action) b state)) (sym (here.1 ∙ before))
                (in_leaf setting lines table left leaf here.0 state inside)
            | inr step ↦
                subst (λ b. Within leaf (asked (Some r.action) b state)) (sym (step.6 ∙ after))
                (in_step step.0 step.1 leaf step.2 step.3 step.4 step.5 only
                (successor r.action state) r.inside)
          ])
          (λ leaf late side within. out (from_leaf setting lines table right leaf side.0 state
          (subst (λ b. Within leaf (asked (Some r.action) b state)) (side.1 ∙ before) within)))

      -- no other word asks for a step
      by_word : (w : Word) → word ≡ w → (only : Sides) → ⊥
      by_word W.B2 same only = after_true only same
      by_word W.B3 same only = before_true only same
      by_word _ same only =
          let none = subst (λ w. asked_step w only.3.0 ≡ Some (only.1, acts)) same only.3.2 in
          cc (none)

      step_true : ⊥
      step_true = by_word word refl sides

    question_true : (acts : Option ℕ) → q.acts ≡ acts → (state : List Bool)
        → IsState setting.task state
        → Within left state → Within right state
    unfolding Within In
    question_true None by state is_state inside =
        set_stable setting.task setting.nodes lines right state is_state
        (λ out. alone_true None by refl state is_state inside out)
    question_true (Some acts) by state is_state inside =
        set_stable setting.task setting.nodes lines right state is_state
        (λ out. step_true acts by state is_state inside out)

  acts_true : (left right : ℕ) → IsVerdictOfActs setting.task lines left right V.True
      → IsTrueStatement setting.task setting.nodes lines (T.ActSub left right)
  acts_true left right is number below among = inside (acts_of lines right number) refl
    where
      inside : (b : Bool) → acts_of lines right number ≡ b → b ≡ true
      inside true e = refl
      inside false e = absurd (is number (below, among, e))

  -- a formula has the states that its line says
  formula_holds : (x : Expr) (family : FormulaFamily) → family_of x ≡ Some family
      → (state : List Bool)
      → (in_line_formula setting x state ≡ true)
      ↔ holds setting.task setting.nodes (acts_of lines)
      (sets_of setting.task setting.nodes lines) x state
  formula_holds (E.Horn clauses) family of state = (λ e. e, λ e. e)
  formula_holds (E.Dual clauses) family of state = (λ e. e, λ e. e)
  formula_holds (E.Two clauses) family of state = (λ e. e, λ e. e)
  formula_holds (E.States states) family of state =
      let tells = in_states-Decides (atoms setting.task) states state in
      (λ e. tells.0 e, λ h. tells.1 h)
  formula_holds (E.Node node) family of state = (λ e. e, λ e. e)
  formula_holds (E.Constant constant) family of state = absurd (cc (of))
  formula_holds (E.Not set) family of state = absurd (cc (of))
  formula_holds (E.And x y) family of state = absurd (cc (of))
  formula_holds (E.Or x y) family of state = absurd (cc (of))
  formula_holds (E.After x y) family of state = absurd (cc (of))
  formula_holds (E.Before x y) family of state = absurd (cc (of))

  -- a side has the states that its line says
  pub signed_in : (leaf set : ℕ) (sign : Bool) (x : Expr) (family : FormulaFamily)
      → IsLiteralOf lines leaf set sign → expr_at lines set ≡ Some x
      → family_of x ≡ Some family → (state : List Bool) → (in_signed setting (x, sign) state ≡ true)
      ↔ sets_of setting.task setting.nodes lines leaf state
  signed_in leaf set true x family is at of state =
      let same = formula_holds x family of state in (
        λ e. subst (λ s. sets_of setting.task setting.nodes lines s state) (sym is.0)
            (set_in setting.task setting.nodes lines set x table at state (same.0 e)),
        λ inside. same.1 (set_out setting.task setting.nodes lines set x table at state
            (subst (λ s. sets_of setting.task setting.nodes lines s state) is.0 inside)),
      )
  signed_in leaf set false x family is at of state =
      let same = formula_holds x family of state in (
        λ e. set_in setting.task setting.nodes lines leaf (E.Not set) table is.0 state
            (λ inside. not_both (in_line_formula setting x state) e
            (same.1 (set_out setting.task setting.nodes lines set x table at state inside))),
        λ inside. not_true (in_line_formula setting x state)
            (λ e. set_out setting.task setting.nodes lines leaf (E.Not set) table is.0 state inside
            (set_in setting.task setting.nodes lines set x table at state (same.0 e))),
      )
    where
      not_both : (b : Bool) → not b ≡ true → b ≡ true → ⊥
      not_both true out is = cc (out)
      not_both false out is = cc (is)

  -- `b4`
  two_true : (left right : ℕ) (x y : ℕ × Bool) → AreTwo lines left right x y
      → IsVerdictOfTwo setting lines x y V.True
      → (state : List Bool) → IsState setting.task state → Within left state → Within right state
  unfolding Within
  two_true left right x y shaped (a, b, at_a, at_b, is) state is_state inside =
      let (f, g, of_f, of_g, apart) = shaped.families in
      let family_a : family_of a ≡ Some f = subst
      (λ e. family_of e ≡ Some f) (same_Some of_f.0 a (sym of_f.1 ∙ at_a)) of_f.2 in
      let family_b : family_of b ≡ Some g = subst
      (λ e. family_of e ≡ Some g) (same_Some of_g.0 b (sym of_g.1 ∙ at_b)) of_g.2 in
      (signed_in right y.0 y.1 b g shaped.right_is at_b family_b state).0
      (second (in_signed setting (a, x.1) state) (in_signed setting (b, y.1) state)
      ((signed_in left x.0 x.1 a f shaped.left_is at_a family_a state).1 inside)
      (is.1 state is_state))
    where
      second : (l r : Bool) → l ≡ true → (l && not r) ≡ false → r ≡ true
      second true true e out = refl
      second true false e out = absurd (cc (out))
      second false r e out = absurd (cc (e))

  -- a statement with the verdict true is true
  pub verdict_true : (statement : Statement) (word : Word)
      → IsVerdict setting lines statement word V.True
      → IsTrueStatement setting.task setting.nodes lines statement
  unfolding Within In
  verdict_true (T.Sub left right) word (OfSets w q, shaped, is) = λ state is_state inside.
      question_true word left right q shaped.1 is.1 q.acts refl state is_state inside
  verdict_true (T.Sub left right) word (OfTwo x y, shaped, is) = λ state is_state inside.
      two_true left right x y shaped.1 is state is_state inside
  verdict_true (T.Sub left right) word (OfActs a b, shaped, is) = absurd shaped
  verdict_true (T.ActSub left right) W.B5 (OfActs a b, shaped, is) =
      acts_true left right (subst (λ x. IsVerdictOfActs setting.task lines x right V.True) shaped.0
      (subst (λ x. IsVerdictOfActs setting.task lines a x V.True) shaped.1 is))
  verdict_true (T.ActSub left right) W.B5 (OfSets w q, shaped, is) = absurd shaped
  verdict_true (T.ActSub left right) W.B5 (OfTwo x y, shaped, is) = absurd shaped
  verdict_true (T.ActSub left right) _ (basic, shaped, is) = absurd shaped
  verdict_true (T.Dead set) word (basic, shaped, is) = absurd shaped
  verdict_true T.Unsolvable word (basic, shaped, is) = absurd shaped
