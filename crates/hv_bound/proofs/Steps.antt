-- The steps of a list: where the first is that can't be taken, and that a list has one answer.
use Rattle.std.proofs.Common.{◌≡◌, ℕ, ◌+◌, ◌∙◌, ◌⊎◌, ◌++◌, ◌∷◌, [], List, Bool, true, false, Some}
use Rattle.std.proofs.Common.{None}
use Rattle.std.proofs.Common.{◌<◌, ◌≤◌, length, get_or, take, drop, refl, sym, ap, inl, inr, arith}
use Rattle.std.proofs.lemmas.Bool.{cond-false}
use Rattle.std.proofs.lemmas.List.{drop_more, length-take-le, take-append-drop, take_all, take_more}
use Rattle.std.proofs.lemmas.List.Sums.{sum_by_push}
use Rattle.std.proofs.lemmas.Option.{slice_get_cases, slice_get_past}
use Rattle.std.specs.List.{slice_get}
use Rattle.hv_task.specs.declared.action.Action.{Action}
use Rattle.hv_task.specs.State.{applicable, successor}
use Rattle.hv_task.specs.Strips.{Strips, is_goal, start_state}
use Rattle.hv_task.specs.Plan.{go_on, run_of, step_of}
use Rattle.hv_task.proofs.Runs.{run_more, run_rest}
use Rattle.hv_bound.specs.declared.plan_check.PlanAnswer.{PlanAnswer}
use Rattle.hv_bound.specs.declared.plan_check.PlanAnswer.TheVariants.{Cost, NoGoal, NotApplicable}
use Rattle.hv_bound.specs.declared.plan_check.PlanAnswer.TheVariants.{Unknown}
use Rattle.hv_bound.specs.PlanAnswers.{ReachesStep, IsPlanAnswer}
use Rattle.hv_bound.specs.Costs.{cost_at, cost_of_list}

-- two beginnings of a list, each with the element after it: they are one, or the longer one has the
-- shorter one and its element
apart : (f g rest also : List ℕ) (n m : ℕ) → f ++ n ∷ rest ≡ g ++ m ∷ also
    → ((length f ≡ length g) × (n ≡ m))
    ⊎ (((more : List ℕ) × (f ++ n ∷ more ≡ g)) ⊎ ((more : List ℕ) × (g ++ m ∷ more ≡ f)))
apart [] [] rest also n m h = inl (refl, cc)
apart [] (y ∷ g) rest also n m h = inr (inl (g, let e : n ≡ y = cc in ap (λ z. z ∷ g) e))
apart (x ∷ f) [] rest also n m h = inr (inr (f, let e : m ≡ x = cc in ap (λ z. z ∷ f) e))
apart (x ∷ f) (y ∷ g) rest also n m h =
    let first : x ≡ y = cc in
    let later : f ++ n ∷ rest ≡ g ++ m ∷ also = cc in
    elim (apart f g rest also n m later) [
      | inl same ↦ inl (ap (λ k. Prim.Native.Nat.suc k) same.0, same.1)
      | inr (inl r) ↦ inr (inl (r.0, ap (λ xs. x ∷ xs) r.1 ∙ ap (λ z. z ∷ g) first))
      | inr (inr r) ↦ inr (inr (r.0, ap (λ xs. y ∷ xs) r.1 ∙ ap (λ z. z ∷ f) (sym first)))
    ]

-- no run goes past a step that can't be taken
stuck : (task : Strips) (before rest : List ℕ) (number : ℕ) (start state last : List Bool)
    → run_of task before start ≡ Some state
    → step_of (slice_get task.actions number) state ≡ None
    → run_of task (before ++ number ∷ rest) start ≡ Some last → ⊥
stuck task before rest number start state last run none whole =
    let ends : run_of task (before ++ number ∷ rest) start ≡ None =
    run_rest task before (number ∷ rest) start state run ∙ ap (go_on (run_of task rest)) none in
    cc

stuck_list : (task : Strips) (list : List ℕ) (step : ℕ) (state : List Bool) (number : ℕ)
    → ReachesStep task list step state number
    → step_of (slice_get task.actions number) state ≡ None
    → (last : List Bool) → run_of task list (start_state task) ≡ Some last → ⊥
stuck_list task list step state number comes none last run =
    stuck task comes.before comes.rest number (start_state task) state last comes.run none
    (ap (λ xs. run_of task xs (start_state task)) comes.cut ∙ run)

-- there is one step that is the first that can't be taken
one_step : (task : Strips) (list : List ℕ) (i j : ℕ) (s t : List Bool) (n m : ℕ)
    → ReachesStep task list i s n → step_of (slice_get task.actions n) s ≡ None
    → ReachesStep task list j t m → step_of (slice_get task.actions m) t ≡ None
    → (i ≡ j) × (n ≡ m)
one_step task list i j s t n m a none b also =
    elim (apart a.before b.before a.rest b.rest n m (a.cut ∙ sym b.cut)) [
      | inl same ↦ (a.counted ∙ ap (λ k. k + 1) same.0 ∙ sym b.counted, same.1)
      | inr (inl r) ↦ absurd (stuck task a.before r.0 n (start_state task) s t a.run none
          (ap (λ xs. run_of task xs (start_state task)) r.1 ∙ b.run))
      | inr (inr r) ↦ absurd (stuck task b.before r.0 m (start_state task) t s b.run also
          (ap (λ xs. run_of task xs (start_state task)) r.1 ∙ a.run))
    ]

unknown : (task : Strips) (state : List Bool) (number : ℕ) → slice_get task.actions number ≡ None
    → step_of (slice_get task.actions number) state ≡ None
unknown task state number none = ap (λ o. step_of o state) none

inapplicable : (task : Strips) (state : List Bool) (number : ℕ) (a : Action)
    → slice_get task.actions number ≡ Some a → applicable a state ≡ false
    → step_of (slice_get task.actions number) state ≡ None
inapplicable task state number a named not_so =
    ap (λ o. step_of o state) named
    ∙ cond-false (applicable a state) (Some (successor a state)) None not_so

goals_apart : (task : Strips) (list : List ℕ) (last end : List Bool)
    → run_of task list (start_state task) ≡ Some last
    → run_of task list (start_state task) ≡ Some end
    → is_goal task last ≡ true → is_goal task end ≡ false → ⊥
goals_apart task list last end run also holds lacks =
    let e : last ≡ end = cc in
    let g : is_goal task last ≡ is_goal task end = ap (is_goal task) e in cc

-- a list has one answer
pub one_answer : (task : Strips) (list : List ℕ) (x y : PlanAnswer) → IsPlanAnswer task list x
    → IsPlanAnswer task list y → x ≡ y
one_answer task list (Cost c) (Cost d) a b = ap (λ k. Cost k) (a.1 ∙ sym b.1)
one_answer task list (Cost c) (Unknown j) a b =
    absurd (stuck_list task list j b.0 b.1 b.2 (unknown task b.0 b.1 b.3) a.0.0 a.0.1)
one_answer task list (Cost c) (NotApplicable j) a b =
    absurd (stuck_list task list j b.0 b.1 b.3 (inapplicable task b.0 b.1 b.2 b.4 b.5) a.0.0 a.0.1)
one_answer task list (Cost c) NoGoal a b =
    absurd (goals_apart task list a.0.0 b.0 a.0.1 b.1 a.0.2 b.2)
one_answer task list (Unknown i) (Cost d) a b =
    absurd (stuck_list task list i a.0 a.1 a.2 (unknown task a.0 a.1 a.3) b.0.0 b.0.1)
one_answer task list (Unknown i) (Unknown j) a b =
    ap (λ k. Unknown k) (one_step task list i j a.0 b.0 a.1 b.1 a.2 (unknown task a.0 a.1 a.3) b.2
    (unknown task b.0 b.1 b.3)).0
one_answer task list (Unknown i) (NotApplicable j) a b =
    let same = (one_step task list i j a.0 b.0 a.1 b.1 a.2 (unknown task a.0 a.1 a.3) b.3
    (inapplicable task b.0 b.1 b.2 b.4 b.5)).1 in
    let e : slice_get task.actions a.1 ≡ slice_get task.actions b.1 =
    ap (slice_get task.actions) same in
    let f : Some b.2 ≡ None = sym b.4 ∙ sym e ∙ a.3 in absurd cc
one_answer task list (Unknown i) NoGoal a b =
    absurd (stuck_list task list i a.0 a.1 a.2 (unknown task a.0 a.1 a.3) b.0 b.1)
one_answer task list (NotApplicable i) (Cost d) a b =
    absurd (stuck_list task list i a.0 a.1 a.3 (inapplicable task a.0 a.1 a.2 a.4 a.5) b.0.0 b.0.1)
one_answer task list (NotApplicable i) (Unknown j) a b =
    let same = (one_step task list i j a.0 b.0 a.1 b.1 a.3
    (inapplicable task a.0 a.1 a.2 a.4 a.5) b.2 (unknown task b.0 b.1 b.3)).1 in
    let e : slice_get task.actions a.1 ≡ slice_get task.actions b.1 =
    ap (slice_get task.actions) same in
    let f : Some a.2 ≡ None = sym a.4 ∙ e ∙ b.3 in absurd cc
one_answer task list (NotApplicable i) (NotApplicable j) a b =
    ap (λ k. NotApplicable k) (one_step task list i j a.0 b.0 a.1 b.1 a.3
    (inapplicable task a.0 a.1 a.2 a.4 a.5) b.3 (inapplicable task b.0 b.1 b.2 b.4 b.5)).0
one_answer task list (NotApplicable i) NoGoal a b =
    absurd (stuck_list task list i a.0 a.1 a.3 (inapplicable task a.0 a.1 a.2 a.4 a.5) b.0 b.1)
one_answer task list NoGoal (Cost d) a b =
    absurd (goals_apart task list b.0.0 a.0 b.0.1 a.1 b.0.2 a.2)
one_answer task list NoGoal (Unknown j) a b =
    absurd (stuck_list task list j b.0 b.1 b.2 (unknown task b.0 b.1 b.3) a.0 a.1)
one_answer task list NoGoal (NotApplicable j) a b =
    absurd (stuck_list task list j b.0 b.1 b.3 (inapplicable task b.0 b.1 b.2 b.4 b.5) a.0 a.1)
one_answer task list NoGoal NoGoal a b = refl

-- The same, along the places of a list.

module _ (task : Strips) (list : List ℕ) (place number : ℕ) (state : List Bool)
    (within : place < length list) (here : number ≡ get_or list place 0)
    (run : run_of task (take place list) (start_state task) ≡ Some state) where
  pub reaches_step : ReachesStep task list (place + 1) state number
  reaches_step = record {
    before = take place list;
    rest = drop (place + 1) list;
    cut = ap (λ n. take place list ++ n ∷ drop (place + 1) list) here
        ∙ ap (λ xs. take place list ++ xs) (sym (drop_more list place 0 within))
        ∙ take-append-drop place list;
    counted = ap (λ n. n + 1) (sym (length-take-le place list (omega arith)));
    run = run;
  }

  -- a number that names no action
  pub unknown_at : length task.actions ≤ number → IsPlanAnswer task list (Unknown (place + 1))
  unknown_at past = (state, number, reaches_step, slice_get_past task.actions number past)

  -- an action that isn't applicable
  pub not_applicable_at : (applies : Bool) → number < length task.actions
      → ((a : Action) → slice_get task.actions number ≡ Some a → applies ≡ applicable a state)
      → applies ≡ false → IsPlanAnswer task list (NotApplicable (place + 1))
  not_applicable_at applies known says not_so =
      elim (slice_get_cases task.actions number).1 [
        | inl there ↦ (
          state,
          number,
          there.0,
          reaches_step,
          there.2,
          sym (says there.0 there.2) ∙ not_so,
        )
        | inr past ↦ absurd (let upto = past.0 in omega arith)
      ]

  -- a step that is taken
  pub taken : (a : Action) → slice_get task.actions number ≡ Some a → applicable a state ≡ true
      → (run_of task (take (place + 1) list) (start_state task) ≡ Some (successor a state))
      × (cost_of_list task (take (place + 1) list) ≡ cost_of_list task (take place list) + a.cost)
  taken a named applies =
      let more = take_more list place 0 within
      ∙ ap (λ n. take place list ++ n ∷ []) (sym here) in (
        ap (λ xs. run_of task xs (start_state task)) more
            ∙ run_more task (take place list) number (start_state task) state a run named applies,
        ap (cost_of_list task) more
            ∙ sum_by_push (λ n. cost_at (slice_get task.actions n)) (take place list) number
            ∙ ap (λ o. cost_of_list task (take place list) + cost_at o) named,
      )

-- the end of the list
pub run_all : (task : Strips) (list : List ℕ) (place : ℕ) (state : List Bool) → length list ≤ place
    → run_of task (take place list) (start_state task) ≡ Some state
    → run_of task list (start_state task) ≡ Some state
run_all task list place state past run =
    ap (λ xs. run_of task xs (start_state task)) (sym (take_all place list past)) ∙ run
