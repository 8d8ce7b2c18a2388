-- Why a search through the states of the anchor answers a query.
use Rattle.std.proofs.Common.{◌≡◌, ℕ, ◌≤◌, ◌∙◌, ◌||◌, Bool, true, false, List, [], ◌∷◌, ◌++◌}
use Rattle.std.proofs.Common.{Option, Some, None, length, get_or, slice_get, refl, sym, ap, arith}
use Rattle.std.proofs.Common.{subst}
use Rattle.std.proofs.lemmas.List.Elements.{All-contains, Contains-append_left}
use Rattle.std.proofs.lemmas.List.Elements.{Contains-append_right, Contains-get_or}
use Rattle.std.proofs.lemmas.List.Folds.{list_all_at, list_any_at, list_any_none}
use Rattle.std.proofs.lemmas.Option.{get_or_from_slice_get, slice_get_within}
use Rattle.std.proofs.lemmas.Bool.{and_parts, false_from_ne_true}
use Rattle.std.specs.List.{All, Contains, list_all}
use Rattle.hv_task.specs.declared.action.Action.{Action}
use Rattle.hv_task.specs.State.{state_of}
use Rattle.hv_task.specs.Strips.{atoms, start_state}
use Rattle.hv_task.proofs.Places.{beq-Decides}
use Rattle.hv_sets.specs.declared.finding.Finding.{Finding}
use Rattle.hv_sets.specs.declared.finding.Finding.TheVariants as F
use Rattle.hv_sets.specs.declared.operand.Operand.{Operand}
use Rattle.hv_sets.specs.declared.operand.Which.{Which}
use Rattle.hv_sets.specs.declared.operand.Which.TheVariants as W
use Rattle.hv_sets.specs.Cost.{IsAnswer, StatesPass, states_of}
use Rattle.hv_sets.specs.Query.{IsAnchor, IsNamed, IsReady, action_of, asked, in_operand}
use Rattle.hv_sets.specs.Query.{may_apply}
use Rattle.hv_sets.specs.Truth.{in_states, is_same}
use Rattle.hv_explicit.specs.ListedStates.{AreListsOver, ListedStates, count_found, in_found}
use Rattle.hv_explicit.specs.ListedStates.{in_listing, in_set}
use Rattle.hv_explicit.specs.ListedStates.{states_listed}
use Rattle.hv_explicit.specs.Working.Search.{IsFoundListed, ListedSearch, NamesAnchor, clashes_in}
use Rattle.hv_explicit.specs.Working.Search.{in_named}

-- what each of two lists keeps its second part keeps
pub All-second : {X : Type 0} (P : X → Type 0) (xs ys : List X) → All P (xs ++ ys) → All P ys
All-second P xs ys all = λ k d within. All-contains P (xs ++ ys) (get_or ys k d) all
    (Contains-append_right xs ys (get_or ys k d) (Contains-get_or ys k d within))

-- where all pass each does
pub passes_at : {X : Type 0} (p : X → Bool) (xs : List X) (x : X) → list_all p xs ≡ true → Contains
    xs x
    → p x ≡ true
passes_at p xs x all c = by (p x) refl
  where
    by : (b : Bool) → p x ≡ b → p x ≡ true
    by true e = e
    by false e =
        let none : list_all p xs ≡ false = list_all_at p xs c.0 x c.1 (ap p c.2 ∙ e) in
        let clash : true ≡ false = sym all ∙ none in absurd cc

-- the state before the action is asked about
pub asked_before : (action : Option Action) (after : Bool) (state : List Bool) → after ≡ false
    → asked action after state ≡ state
asked_before None true state e = refl
asked_before None false state e = refl
asked_before (Some action) true state e = let f : true ≡ false = e in absurd cc
asked_before (Some action) false state e = refl

-- a set of the store is over the task
pub over_at : (sets : List ListedStates) (n number : ℕ) (set : ListedStates) → AreListsOver sets n
    → slice_get sets number ≡ Some set → set.atoms ≡ n
over_at sets n number set over named =
    All-contains (λ (s : ListedStates). s.atoms ≡ n) sets set over (
      number,
      slice_get_within sets number set named,
      get_or_from_slice_get sets number set set
          named,
    )

-- each state of a set of the store is in it
pub anchor_has : (s : ListedSearch) (number : ℕ) (set : ListedStates) → set.atoms ≡ atoms s.task
    → slice_get s.sets number ≡ Some set
    → All (λ held. in_named s (W.Set number) (state_of (atoms s.task) held) ≡ true) set.states
anchor_has s number set over named = λ k d within.
    let state = state_of (atoms s.task) (get_or set.states k d) in
    let mine : in_states (atoms s.task) set.states state ≡ true =
    list_any_at (λ h. is_same (state_of (atoms s.task) h) state) set.states k d within
    ((beq-Decides state state).1 refl) in
    ap (λ o. in_found o state) named
    ∙ subst (λ m. in_states m set.states state ≡ true) (sym over) mine

module _ (s : ListedSearch) where
  -- a counterexample is in the anchor
  in_anchor : (o : Operand) → IsAnchor s.query.positive o → (state : List Bool)
      → clashes_in s state ≡ true → in_named s o.which state ≡ true
  in_anchor o anchor state clash =
      let action = action_of s.task s.query.action in
      let parts = and_parts (may_apply action state) _ clash in
      let sides = and_parts (list_all (λ p. in_operand s.task (in_set s.sets) action state p)
      s.query.positive) _ parts.1 in
      let held = passes_at (λ p. in_operand s.task (in_set s.sets) action state p)
      s.query.positive o sides.0 anchor.among in
      subst (λ b. in_named s o.which b ≡ true) (asked_before action o.after state anchor.can.0) held

  -- all that may be called the anchor name one set
  only : IsReady (length s.sets) s.query → (o p : Operand) → IsAnchor s.query.positive o
      → IsAnchor s.query.positive p → p.which ≡ o.which
  only ready o p anchor other =
      let upto = anchor.least p other.among other.can in
      let back = other.least o anchor.among anchor.can in
      ready.one_set p o (Contains-append_left s.query.positive s.query.negative p other.among)
      (Contains-append_left s.query.positive s.query.negative o anchor.among) (omega arith)

  -- so what one of them names is the anchor
  pub names_anchor : IsReady (length s.sets) s.query → (o : Operand)
      → IsAnchor s.query.positive o → NamesAnchor s o.which
  names_anchor ready o anchor = record {
    one = (o, anchor, refl);
    each = λ p other. only ready o p anchor other;
    named = All-contains (λ (p : Operand). IsNamed (length s.sets) p.which) _ o ready.named
        (Contains-append_left s.query.positive s.query.negative o anchor.among);
  }

  module _ (which : Which) (anchor : NamesAnchor s which) where
    -- it decides whether the budget is passed
    within_budget : (budget : ℕ) → states_of (states_listed s.sets) which ≤ budget
        → StatesPass (states_listed s.sets) s.query budget → ⊥
    within_budget budget upto passes =
        let same = ap (states_of (states_listed s.sets)) (anchor.each passes.0 passes.1) in
        let more = passes.2 in absurd (omega arith)

    -- a counterexample is in what it names
    in_it : (state : List Bool) → clashes_in s state ≡ true → in_named s which state ≡ true
    in_it state clash = subst (λ w. in_named s w state ≡ true) anchor.one.2
        (in_anchor anchor.one.0 anchor.one.1 state clash)

    -- what was found among the states of the anchor is the answer
    answer_found : (found : Finding) (budget : ℕ) (states : List (List ℕ)) (last : List Bool)
        → states_of (states_listed s.sets) which ≡ length states
        → ((state : List Bool) → in_named s which state ≡ true
        → in_states (atoms s.task) states state ≡ true)
        → IsFoundListed found budget s states last
        → IsAnswer found (StatesPass (states_listed s.sets) s.query budget) (atoms s.task)
        (clashes_in s) last
    answer_found F.Over budget states last count listed f =
        let same = ap (states_of (states_listed s.sets)) anchor.one.2 in
        (anchor.one.0, anchor.one.1, omega (arith, f, count))
    answer_found F.Clash budget states last count listed f =
        (within_budget budget (omega (arith, f.0, count)), f.1, f.2)
    answer_found F.Empty budget states last count listed f = (
      within_budget budget (omega (arith, f.0, count)),
      λ state size. false_from_ne_true (clashes_in s state)
          (λ clash.
          let among = listed state (in_it state clash) in
          let none : in_states (atoms s.task) states state ≡ false =
          list_any_none (λ held. is_same (state_of (atoms s.task) held) state) states
          (λ k d within.
          false_from_ne_true (is_same (state_of (atoms s.task) (get_or states k d)) state)
          (λ same.
          let is = (beq-Decides (state_of (atoms s.task) (get_or states k d)) state).0 same in
          let out = ap (clashes_in s) (sym is) ∙ f.1 k d within in
          let no : true ≡ false = sym clash ∙ out in absurd cc)) in
          let no : true ≡ false = sym among ∙ none in absurd cc),
    )

    -- the initial state is the only state of its set
    pub answer_start : (found : Finding) (budget : ℕ) (last : List Bool) → which ≡ W.Start
        → IsFoundListed found budget s (s.task.start ∷ []) last
        → IsAnswer found (StatesPass (states_listed s.sets) s.query budget) (atoms s.task)
        (clashes_in s) last
    answer_start found budget last is f =
        answer_found found budget (s.task.start ∷ []) last
        (ap (states_of (states_listed s.sets)) is)
        (λ state holds.
        let same : is_same (start_state s.task) state ≡ true =
        ap (λ w. in_named s w state) (sym is) ∙ holds in
        ap (λ b. b || false) same)
        f

    -- the states of a set of the store
    pub answer_set : (found : Finding) (budget number : ℕ) (set : ListedStates) (last : List Bool)
        → set.atoms ≡ atoms s.task → which ≡ W.Set number → slice_get s.sets number ≡ Some set
        → IsFoundListed found budget s set.states last
        → IsAnswer found (StatesPass (states_listed s.sets) s.query budget) (atoms s.task)
        (clashes_in s) last
    answer_set found budget number set last over is named f =
        answer_found found budget set.states last
        (ap (states_of (states_listed s.sets)) is ∙ ap count_found named)
        (λ state holds.
        let among : in_listing set state ≡ true =
        ap (λ o. in_found o state) (sym named) ∙ (ap (λ w. in_named s w state) (sym is) ∙ holds) in
        subst (λ n. in_states n set.states state ≡ true) over among)
        f

    -- an anchor that is neither the initial state nor a set of the store is the empty set, which
    -- has no state
    pub answer_empty : (budget : ℕ) (last : List Bool) → (which ≡ W.Start → ⊥)
        → ((number : ℕ) → which ≡ W.Set number → ⊥)
        → IsAnswer F.Empty (StatesPass (states_listed s.sets) s.query budget) (atoms s.task)
        (clashes_in s) last
    answer_empty budget last no_start no_set =
        answer_found F.Empty budget [] last (ap (states_of (states_listed s.sets)) is)
        (λ state holds.
        let no : false ≡ true = ap (λ w. in_named s w state) (sym is) ∙ holds in absurd cc)
        (omega arith, λ k d within. absurd (omega arith))
      where
        by : (w : Which) → which ≡ w → which ≡ W.Empty
        by W.Empty e = e
        by W.Start e = absurd (no_start e)
        by W.Goal e = absurd (anchor.one.1.can.1 (anchor.one.2 ∙ e))
        by (W.Set number) e = absurd (no_set number e)

        is : which ≡ W.Empty
        is = by which refl
