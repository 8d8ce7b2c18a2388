-- Why the verdict on a question over an action set is that of the queries for a few of its actions:
-- no other one has a counterexample, and all queries have one cost.
use Rattle.std.proofs.Common.{◌≡◌, ◌⊎◌, ℕ, zero, suc, ◌<◌, ◌∙◌, ◌++◌, Bool, true, false, List, []}
use Rattle.std.proofs.Common.{◌∷◌}
use Rattle.std.proofs.Common.{Option, Some, None, length, map, get_or, slice_get, refl, sym, ap}
use Rattle.std.proofs.Common.{subst, inl, inr, arith}
use Rattle.std.proofs.lemmas.Bool.{and_parts, cases_lt, false_from_ne_true}
use Rattle.std.proofs.lemmas.List.{get_or_default, length-append, length-map}
use Rattle.std.proofs.lemmas.List.Elements.{All-contains, Contains-get_or}
use Rattle.std.proofs.lemmas.Option.{same_Some, slice_get-get_or, slice_get-map, slice_get_within}
use Rattle.std.specs.List.{Contains, list_all}
use Rattle.std.specs.List.Sorted.{IsStrictlyIncreasing}
use Rattle.std.specs.Option.{option_map}
use Rattle.hv_task.specs.State.{names_atom}
use Rattle.hv_task.specs.Strips.{Strips, atoms}
use Rattle.hv_task.proofs.Places.{names_atom-Decides}
use Rattle.hv_task.proofs.Rising.{rises_upto}
use Rattle.hv_sets.specs.Query.{action_of, in_operand, in_which, is_clash, may_apply}
use Rattle.hv_sets.specs.declared.operand.Operand.{Operand}
use Rattle.hv_sets.specs.declared.operand.Which.{Which}
use Rattle.hv_sets.specs.declared.query.Query.{Query}
use Rattle.hv_explicit.proofs.Anchored.{asked_before, passes_at}
use Rattle.hv_lines.specs.Meaning.{acts_of}
use Rattle.hv_lines.specs.Queries.{PassesBudget, actions_below, asked_actions, has_of, queries_of}
use Rattle.hv_lines.specs.Queries.{query_of}
use Rattle.hv_lines.specs.Setting.{Setting}
use Rattle.hv_lines.specs.Shapes.{QuestionState}
use Rattle.hv_lines.specs.Verdicts.{DecidesNothing}
use Rattle.hv_lines.specs.declared.formula_family.FormulaFamily.{FormulaFamily}
use Rattle.hv_lines.specs.declared.formula_family.FormulaFamily.TheVariants as F
use Rattle.hv_lines.specs.declared.line.Line.{Line}
use Rattle.hv_lines.specs.declared.verdict.Verdict.TheVariants as V
use Rattle.hv_lines.proofs.Elements.{all_from, got_in, got_mapped, in_mapped, slice_get_some}
use Rattle.hv_basic.specs.Working.Asked.{with_action}
use Rattle.hv_basic.specs.Working.Candidates.{AreCandidates, AreListedAmong, HaveAllClashes}
use Rattle.hv_basic.specs.Working.Candidates.{HaveClashesAmong, IsAskedBefore}
use Rattle.hv_basic.specs.Working.Deciding.{AreEnough}
use Rattle.hv_basic.proofs.Growing.{got_before, got_last}
use Rattle.hv_basic.proofs.Listed.{none_more, one_more}

-- what is known of the last of a list and of those before
at_last : {X : Type 0} (xs : List X) (x y : X) (i : ℕ) → slice_get (xs ++ x ∷ []) i ≡ Some y
    → (slice_get xs i ≡ Some y) ⊎ ((i ≡ length xs) × (x ≡ y))
at_last xs x y i at =
    elim (cases_lt i (length xs)) [
      | inl less ↦ inl (sym (got_before xs x i less) ∙ at)
      | inr upto ↦
          let longer = length-append xs (x ∷ []) in
          let within = slice_get_within (xs ++ x ∷ []) i y at in
          let here : i ≡ length xs = omega (arith, longer, within, upto) in
          inr (here, same_Some x y (sym (got_last xs x i here) ∙ at))
    ]

module _ (lines : List Line) (acts : ℕ) where
  -- the actions below a bound are of the action set
  pub below_are : (n i : ℕ) (a : Option ℕ) → slice_get (actions_below lines acts n) i ≡ Some a
      → (k : ℕ) × (a ≡ Some k) × (k < n) × (acts_of lines acts k ≡ true)
  below_are zero i a at = absurd (cc (at))
  below_are (suc n) i a at = by (acts_of lines acts n) refl (below_are n i a)
    where
      by : (b : Bool) → acts_of lines acts n ≡ b
          → (slice_get (actions_below lines acts n) i ≡ Some a
          → (k : ℕ) × (a ≡ Some k) × (k < n) × (acts_of lines acts k ≡ true))
          → (k : ℕ) × (a ≡ Some k) × (k < suc n) × (acts_of lines acts k ≡ true)
      by false e before =
          let w = before (ap (λ xs. slice_get xs i) (sym (none_more lines acts n e)) ∙ at) in
          let less = w.2 in (w.0, w.1, omega (arith, less), w.3)
      by true e before = elim (at_last (actions_below lines acts n) (Some n) a i
          (ap (λ xs. slice_get xs i) (sym (one_more lines acts n e)) ∙ at)) [
            | inl there ↦
                let w = before there in
                let less = w.2 in (w.0, w.1, omega (arith, less), w.3)
            | inr last ↦ (n, sym last.1, omega arith, e)
          ]

  -- each action of the action set stands among those below a bound that it is below
  pub below_has : (n k : ℕ) → k < n → acts_of lines acts k ≡ true
      → (i : ℕ) × (slice_get (actions_below lines acts n) i ≡ Some (Some k))
  below_has zero k less among = absurd (omega (arith, less))
  below_has (suc n) k less among =
      elim (cases_lt k n) [
        | inl before ↦
            let w = below_has n k before among in
            let within = slice_get_within (actions_below lines acts n) w.0 (Some k) w.1 in
            (w.0, more (acts_of lines acts n) refl w.0 (Some k) within w.1)
        | inr upto ↦
            let here : k ≡ n = omega (arith, upto, less) in
            let has : acts_of lines acts n ≡ true = subst (λ m. acts_of lines acts m ≡ true) here
            among in (
              length (actions_below lines acts n),
              ap (λ xs. slice_get xs (length (actions_below lines acts n)))
                  (one_more lines acts n has)
                  ∙ (got_last (actions_below lines acts n) (Some n)
                  (length (actions_below lines acts n)) refl ∙ ap (λ (m : ℕ). Some (Some m)) (sym here)),
            )
      ]
    where
      more : (b : Bool) → acts_of lines acts n ≡ b → (i : ℕ) (a : Option ℕ)
          → i < length (actions_below lines acts n)
          → slice_get (actions_below lines acts n) i ≡ Some a
          → slice_get (actions_below lines acts (suc n)) i ≡ Some a
      more false e i a within at = ap (λ xs. slice_get xs i) (none_more lines acts n e) ∙ at
      more true e i a within at =
          ap (λ xs. slice_get xs i) (one_more lines acts n e)
          ∙ (got_before (actions_below lines acts n) (Some n) i within ∙ at)

  -- they rise
  pub below_rise : (n i j k m : ℕ) → slice_get (actions_below lines acts n) i ≡ Some (Some k)
      → slice_get (actions_below lines acts n) j ≡ Some (Some m) → i < j → k < m
  below_rise zero i j k m first second less = absurd (cc (first))
  below_rise (suc n) i j k m first second less =
      by (acts_of lines acts n) refl (λ one other. below_rise n i j k m one other less)
    where
      by : (b : Bool) → acts_of lines acts n ≡ b
          → (slice_get (actions_below lines acts n) i ≡ Some (Some k)
          → slice_get (actions_below lines acts n) j ≡ Some (Some m) → k < m) → k < m
      by false e before =
          let same = sym (none_more lines acts n e) in
          before (ap (λ xs. slice_get xs i) same ∙ first) (ap (λ xs. slice_get xs j) same ∙ second)
      by true e before =
          let same = sym (one_more lines acts n e) in
          elim (at_last (actions_below lines acts n) (Some n) (Some k) i
          (ap (λ xs. slice_get xs i) same ∙ first)) [
            | inl there ↦
                elim (at_last (actions_below lines acts n) (Some n) (Some m) j
                (ap (λ xs. slice_get xs j) same ∙ second)) [
                  | inl also ↦ before there also
                  | inr last ↦
                      let w = below_are n i (Some k) there in
                      let less = w.2 in
                      let one : k ≡ w.0 = same_Some k w.0 w.1 in
                      let other : n ≡ m = same_Some n m last.1 in omega (arith, less, one, other)
                ]
            | inr last ↦
                let whole = ap (λ xs. slice_get xs j) same ∙ second in
                let within = slice_get_within (actions_below lines acts n ++ Some n ∷ []) j
                (Some m) whole in
                let longer = length-append (actions_below lines acts n) (Some n ∷ []) in
                let here = last.0 in absurd (omega (arith, here, less, within, longer))
          ]

-- in a counterexample the action is applicable, and it is in each set that is asked about before
pub clash_in : (task : Strips) (sets : ℕ → List Bool → Bool) (query : Query) (o : Operand)
    (state : List Bool)
    → Contains query.positive o → o.after ≡ false → is_clash task sets query state ≡ true
    → (may_apply (action_of task query.action) state ≡ true)
    × (in_which task sets o.which state ≡ true)
clash_in task sets query o state among before clash =
    let action = action_of task query.action in
    let parts = and_parts (may_apply action state) _ clash in
    let sides = and_parts (list_all (λ p. in_operand task sets action state p) query.positive) _
    parts.1 in
    let held = passes_at (λ p. in_operand task sets action state p) query.positive o sides.0 among
    in (
      parts.0,
      subst (λ b. in_which task sets o.which b ≡ true) (asked_before action o.after state before)
          held,
    )

-- where a set is asked about before the action, the actions that can be applicable in a state of it
-- are all that can have a counterexample
pub clashes_in_set : (task : Strips) (sets : ℕ → List Bool → Bool) (query : Query) (which : Which)
    (listed : List ℕ) → IsAskedBefore query.positive which → AreCandidates task sets which listed
    → HaveAllClashes task sets query listed
clashes_in_set task sets query which listed before are = record {
  below = are.below;
  first = are.first;
  each = λ n state less size yes.
      let w = clash_in task sets (with_action query (Some n)) before.0 state before.1 before.2 yes
      in
      let a = slice_get_some task.actions n less in
      are.each n a.0 state a.1 size (subst (λ x. in_which task sets x state ≡ true) before.3 w.1)
      (subst (λ f. may_apply f state ≡ true) a.1 w.0);
}

-- the cost doesn't hang on the action, but over diagrams
same_cost : (setting : Setting) (lines : List Line) (query : Query) (family : FormulaFamily)
    → (family ≡ F.Node → ⊥) → (a b : Option ℕ)
    → PassesBudget setting lines family (with_action query a)
    → PassesBudget setting lines family (with_action query b)
same_cost setting lines query F.Horn other a b passes = passes
same_cost setting lines query F.Dual other a b passes = passes
same_cost setting lines query F.Two other a b passes = passes
same_cost setting lines query F.States other a b passes = passes
same_cost setting lines query F.Node other a b passes = absurd (other refl)

none_of : (xs : List ℕ) (x : ℕ) → Contains xs x → 0 < length xs
none_of xs x c = let h = c.1 in omega (arith, h)

module _ (setting : Setting) (lines : List Line) (q : QuestionState) (query : Query)
    (is : (action : Option ℕ) → with_action query action ≡ query_of lines q action)
    (acts : ℕ) (by_acts : q.acts ≡ Some acts) (other : q.family ≡ F.Node → ⊥) (listed : List ℕ)
    (are : HaveClashesAmong setting.task (has_of setting lines q.family) query (acts_of lines acts)
    listed) where
  abbrev count : ℕ
  count = length setting.task.actions

  abbrev Passes : Query → Type 0
  Passes = PassesBudget setting lines q.family

  abbrev clash : Query → List Bool → Bool
  clash = is_clash setting.task (has_of setting lines q.family)

  abbrev for_action : ℕ → Query
  for_action n = with_action query (Some n)

  abbrev IsSettled : Query → Type 0
  IsSettled = DecidesNothing Passes clash (atoms setting.task)

  abbrev numbered : List (Option ℕ)
  numbered = actions_below lines acts count

  abbrev whole : List Query
  whole = queries_of setting.task lines q

  abbrev few : List Query
  few = map (with_action query) (map (λ (n : ℕ). Some n) listed)

  whole_is : whole ≡ map (query_of lines q) numbered
  whole_is = ap (λ o. map (query_of lines q) (asked_actions setting.task lines o)) by_acts

  whole_at : (place n : ℕ) → slice_get numbered place ≡ Some (Some n)
      → slice_get whole place ≡ Some (for_action n)
  whole_at place n at =
      ap (λ xs. slice_get xs place) whole_is
      ∙ (slice_get-map (query_of lines q) numbered place
      ∙ (ap (λ o. option_map (query_of lines q) o) at ∙ ap Some (sym (is (Some n)))))

  -- a query of the question is for a chosen action, at the place of that
  whole_only : (place : ℕ) (e : Query) → slice_get whole place ≡ Some e
      → (n : ℕ) × (slice_get numbered place ≡ Some (Some n)) × (n < count)
      × (acts_of lines acts n ≡ true) × (for_action n ≡ e)
  whole_only place e at =
      let w = got_mapped (query_of lines q) (slice_get numbered place) e
      (sym (slice_get-map (query_of lines q) numbered place)
      ∙ (ap (λ xs. slice_get xs place) (sym whole_is) ∙ at)) in
      let a = below_are lines acts count place w.0 w.1 in (
        a.0,
        w.1 ∙ ap Some a.1,
        a.2,
        a.3,
        is (Some a.0) ∙ (ap (query_of lines q) (sym a.1) ∙ w.2),
      )

  few_at : (i : ℕ) → i < length listed → slice_get few i ≡ Some (for_action (get_or listed i 0))
  few_at i less =
      slice_get-map (with_action query) (map (λ (n : ℕ). Some n) listed) i
      ∙ ap (λ o. option_map (with_action query) o)
      (slice_get-map (λ (n : ℕ). Some n) listed i
      ∙ ap (λ o. option_map (λ (n : ℕ). Some n) o) (slice_get-get_or listed i 0 less))

  few_only : (i : ℕ) (e : Query) → slice_get few i ≡ Some e
      → (i < length listed) × (for_action (get_or listed i 0) ≡ e)
  few_only i e at =
      let within = slice_get_within few i e at in
      let long = length-map (map (λ (n : ℕ). Some n) listed) (with_action query) in
      let short = length-map listed (λ (n : ℕ). Some n) in
      let less : i < length listed = omega (arith, within, long, short) in
      (less, same_Some (for_action (get_or listed i 0)) e (sym (few_at i less) ∙ at))

  -- a chosen action that isn't in the list has no counterexample
  quiet : (n : ℕ) → n < count → acts_of lines acts n ≡ true → (Contains listed n → ⊥)
      → (state : List Bool) → length state ≡ atoms setting.task
      → clash (for_action n) state ≡ false
  quiet n less among out state size =
      false_from_ne_true (clash (for_action n) state)
      (λ yes. out (are.each n state less among size yes))

  -- where one query is within the budget, and those of the list up to a place decide nothing, none
  -- does that comes before the action of this place
  settled : (bound n m : ℕ) → (Passes (for_action m) → ⊥)
      → ((i : ℕ) → i < bound → i < length listed → IsSettled (for_action (get_or listed i 0)))
      → ((i : ℕ) → i < length listed → get_or listed i 0 ≡ n → i < bound) → n < count
      → acts_of lines acts n ≡ true → IsSettled (for_action n)
  settled bound n m free below order less among = by (names_atom listed n) refl
    where
      by : (b : Bool) → names_atom listed n ≡ b → IsSettled (for_action n)
      by true e =
          let c = (names_atom-Decides listed n).0 e in
          let here : get_or listed c.0 0 ≡ n = get_or_default listed c.0 0 n c.1 ∙ c.2 in
          subst (λ k. IsSettled (for_action k)) here (below c.0 (order c.0 c.1 here) c.1)
      by false e = (
        λ passes. free (same_cost setting lines query q.family other (Some n) (Some m) passes),
        quiet n less among (λ c. let yes = (names_atom-Decides listed n).1 c in
            let no : true ≡ false = sym yes ∙ e in absurd cc),
      )

  -- an action of the list is chosen, and so it has a place
  place_of : (i : ℕ) → i < length listed
      → (place : ℕ) × (slice_get numbered place ≡ Some (Some (get_or listed i 0)))
  place_of i less =
      below_has lines acts count (get_or listed i 0) (are.below i 0 less)
      (are.only (get_or listed i 0) (Contains-get_or listed i 0 less))

  -- the actions of the list are actions of the action set
  pub few_among : (action : Option ℕ) → Contains (map (λ (n : ℕ). Some n) listed) action
      → Contains (asked_actions setting.task lines q.acts) action
  few_among action c =
      let w = in_mapped (λ (n : ℕ). Some n) listed action c in
      let less : w.0 < count = All-contains (λ n. n < count) listed w.0 are.below w.1 in
      let at = below_has lines acts count w.0 less (are.only w.0 w.1) in
      subst (Contains (asked_actions setting.task lines q.acts)) w.2
      (got_in (asked_actions setting.task lines q.acts) at.0 (Some w.0)
      (ap (λ x. slice_get (asked_actions setting.task lines x) at.0) by_acts ∙ at.1))

  pub few_enough : IsStrictlyIncreasing listed
      → AreEnough setting lines q query (map (λ (n : ℕ). Some n) listed)
  few_enough rises V.True decided = λ place e at.
      let w = whole_only place e at in
      let has = are.some w.0 w.2 w.3 in
      let free = (decided 0 (for_action (get_or listed 0 0)) (few_at 0 has)).0 in
      subst IsSettled w.4
      (settled (length listed) w.0 (get_or listed 0 0) free
      (λ i _ less. decided i (for_action (get_or listed i 0)) (few_at i less)) (λ i less _. less)
      w.2 w.3)
  few_enough rises (V.False found) decided =
      let d = decided.1 in
      let w = few_only d.0 decided.0 d.1 in
      let a = get_or listed d.0 0 in
      let p = place_of d.0 w.0 in
      let free : Passes (for_action a) → ⊥ = λ passes. decided.2 (subst Passes w.1 passes) in (
        decided.0,
        (
          p.0,
          whole_at p.0 a p.1 ∙ ap Some w.1,
          λ lower earlier less at.
              let v = whole_only lower earlier at in
              let sooner : v.0 < a = below_rise lines acts count lower p.0 v.0 a v.1 p.1 less in
              subst IsSettled v.4
              (settled d.0 v.0 a free
              (λ i before within. d.2 i (for_action (get_or listed i 0)) before (few_at i within))
              (λ i within here. elim (cases_lt i d.0) [
                | inl before ↦ before
                | inr upto ↦
                    let h = rises_upto listed d.0 i rises upto within in
                    absurd (omega (arith, h, here, sooner))
              ])
              v.2 v.3),
        ),
        decided.2,
        decided.3,
      )
  few_enough rises V.Over decided =
      let d = decided.1 in
      let w = few_only d.0 decided.0 d.1 in
      let a = get_or listed d.0 0 in
      let p = place_of d.0 w.0 in
      let there : 0 < length whole =
      let within = slice_get_within whole p.0 (for_action a) (whole_at p.0 a p.1) in
      omega (arith, within) in
      let first = slice_get_some whole 0 there in
      let v = whole_only 0 first.0 first.1 in (
        for_action v.0,
        (
          0,
          whole_at 0 v.0 v.1,
          λ lower earlier less at. absurd (omega (arith, less)),
        ),
        same_cost setting lines query q.family other (Some a) (Some v.0)
            (subst Passes (sym w.1) decided.2),
      )
  few_enough rises V.NotOffered decided = absurd decided

-- where all actions are chosen, those that have all counterexamples and the first have them among
-- the chosen ones
pub among_all : (task : Strips) (sets : ℕ → List Bool → Bool) (query : Query) (chosen : ℕ → Bool)
    (listed : List ℕ) → ((n : ℕ) → chosen n ≡ true) → HaveAllClashes task sets query listed
    → HaveClashesAmong task sets query chosen listed
among_all task sets query chosen listed every are = record {
  below = are.below;
  only = λ n _. every n;
  some = λ n less _. none_of listed 0 (are.first (omega (arith, less)));
  each = λ n state less _ size yes. are.each n state less size yes;
}

-- of those that have all counterexamples, the ones that a list has have them among it
pub among_listed : (task : Strips) (sets : ℕ → List Bool → Bool) (query : Query)
    (chosen : ℕ → Bool) (listed numbers few : List ℕ)
    → ((n : ℕ) → chosen n ≡ true → Contains listed n)
    → ((n : ℕ) → Contains listed n → chosen n ≡ true) → HaveAllClashes task sets query numbers
    → AreListedAmong listed numbers (length task.actions) few
    → HaveClashesAmong task sets query chosen few
among_listed task sets query chosen listed numbers few to from all are = record {
  below = all_from (λ n. n < length task.actions) few (λ n c. (are.only n c).1);
  only = λ n c. from n (are.only n c).0;
  some = λ n less is. are.some n (to n is) less;
  each = λ n state less is size yes. are.each n (all.each n state less size yes) (to n is) less;
}
