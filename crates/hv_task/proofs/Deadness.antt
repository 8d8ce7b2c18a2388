-- What shows that states are dead: progression, regression, the initial state, the goal (Eriksson,
-- Röger and Helmert, 2018).
use Rattle.std.proofs.Common.{◌≡◌, ℕ, ◌∙◌, ◌⊎◌, Bool, true, List, [], ◌∷◌, ◌++◌, Some, refl, sym}
use Rattle.std.proofs.Common.{ap, subst, inl, inr, append_assoc, append-nil}
use Rattle.std.specs.List.{slice_get}
use Rattle.hv_task.specs.declared.action.Action.{Action}
use Rattle.hv_task.specs.State.{applicable, successor}
use Rattle.hv_task.specs.Strips.{Strips, IsState, start_state, is_goal}
use Rattle.hv_task.specs.Plan.{run_of, Solves, Traverses, Dead, IsUnsolvable}
use Rattle.hv_task.specs.Deadness.{AreDead, Leads, LeadsBack}
use Rattle.hv_task.proofs.Places.{IsState-successor, IsState-start_state}
use Rattle.hv_task.proofs.Runs.{first_step, run_rest, run_more, IsState-run_of}

-- every list traverses the initial state
pub traverses_start : (task : Strips) (list : List ℕ) → Traverses task list (start_state task)
traverses_start task list = ([], list, refl, refl)

-- a list traverses the state that it leads to
pub traverses_last : (task : Strips) (list : List ℕ) (last : List Bool)
    → run_of task list (start_state task) ≡ Some last
    → Traverses task list last
traverses_last task list last h = (list, [], append-nil list, h)

-- what holds of a state that a list traverses, and goes on holding over each step between traversed
-- states, holds further on:
-- it can't be that it doesn't
pub along : (task : Strips) (list : List ℕ) (K : List Bool → Type 0)
    → ((state : List Bool) (number : ℕ) (a : Action) → IsState task state
    → slice_get task.actions number ≡ Some a
    → applicable a state ≡ true → Traverses task list state
    → Traverses task list (successor a state)
    → K state → (K (successor a state) → ⊥) → ⊥)
    → (rest front after : List ℕ) (state last : List Bool) → front ++ (rest ++ after) ≡ list
    → run_of task front (start_state task) ≡ Some state → run_of task rest state ≡ Some last
    → K state → (K last → ⊥) → ⊥
along task list K each [] front after state last parts run rest_run holds out =
    let same : state ≡ last = cc in out (subst K same holds)
along task list K each (number ∷ rest) front after state last parts run rest_run holds out =
    let step = first_step task number rest state last rest_run in
    let next_run = run_more task front number (start_state task) state step.0 run step.1 step.2 in
    let next_parts : (front ++ number ∷ []) ++ (rest ++ after) ≡ list =
    append_assoc front (number ∷ []) (rest ++ after) ∙ parts in
    let is_state = IsState-run_of task front (start_state task) state (IsState-start_state task)
    run in
    each state number step.0 is_state step.1 step.2
    (front, (number ∷ rest) ++ after, parts, run)
    (front ++ number ∷ [], rest ++ after, next_parts, next_run)
    holds
    (λ next_holds. along task list K each rest (front ++ number ∷ []) after (successor step.0 state)
    last next_parts next_run step.3 next_holds out)

module _ (task : Strips) (S X : List Bool → Type 0) where
  -- over a plan, a step from S leads to S again, since it leads into S or to a state that is dead
  forward : Leads task S (λ s. S s ⊎ X s) → AreDead task X → (list : List ℕ) → Solves task list
      → (state : List Bool) (number : ℕ) (a : Action) → IsState task state
      → slice_get task.actions number ≡ Some a
      → applicable a state ≡ true → Traverses task list state
      → Traverses task list (successor a state)
      → S state → (S (successor a state) → ⊥) → ⊥
  forward leads dead list solves state number a is_state named applies before after holds out =
      leads state number a is_state named applies holds
      (λ either. elim either [
        | inl holds_next ↦ out holds_next
        | inr next_dead ↦ dead (successor a state) (IsState-successor task a state is_state)
            next_dead list solves after
      ])

  -- over a plan, a step from outside S leads outside S, since only states of S and dead ones lead
  -- into S
  backward : LeadsBack task S (λ s. S s ⊎ X s) → AreDead task X → (list : List ℕ) → Solves task list
      → (state : List Bool) (number : ℕ) (a : Action) → IsState task state
      → slice_get task.actions number ≡ Some a
      → applicable a state ≡ true → Traverses task list state
      → Traverses task list (successor a state)
      → (S state → ⊥) → ((S (successor a state) → ⊥) → ⊥) → ⊥
  backward leads dead list solves state number a is_state named applies before after outside out =
      out (λ holds_next. leads state number a is_state named applies holds_next
      (λ either. elim either [
        | inl holds ↦ outside holds
        | inr is_dead ↦ dead state is_state is_dead list solves before
      ]))

  -- a set is dead if each step from it leads into it or to dead states, and its goal states are
  -- dead
  pub progress : Leads task S (λ s. S s ⊎ X s) → AreDead task X
      → AreDead task (λ s. S s × (is_goal task s ≡ true)) → AreDead task S
  progress leads dead dead_goals state is_state holds list solves t =
      let rest_run = sym (run_rest task t.0 t.1 (start_state task) state t.3)
      ∙ ap (λ l. run_of task l (start_state task)) t.2 ∙ solves.1 in
      along task list S (forward leads dead list solves) t.1 t.0 [] state solves.0
      (ap (λ l. t.0 ++ l) (append-nil t.1) ∙ t.2)
      t.3 rest_run holds
      (λ last_holds. dead_goals solves.0 (IsState-run_of task list (start_state task) solves.0
      (IsState-start_state task) solves.1)
      (last_holds, solves.2) list solves (traverses_last task list solves.0 solves.1))

  -- the states outside a set are dead if only states of it and dead ones lead into it, and the goal
  -- states outside it are dead
  pub regress : LeadsBack task S (λ s. S s ⊎ X s) → AreDead task X
      → AreDead task (λ s. (S s → ⊥) × (is_goal task s ≡ true))
      → AreDead task (λ s. S s → ⊥)
  regress leads dead dead_goals state is_state outside list solves t =
      let rest_run = sym (run_rest task t.0 t.1 (start_state task) state t.3)
      ∙ ap (λ l. run_of task l (start_state task)) t.2 ∙ solves.1 in
      along task list (λ s. S s → ⊥) (backward leads dead list solves) t.1 t.0 [] state solves.0
      (ap (λ l. t.0 ++ l) (append-nil t.1) ∙ t.2) t.3 rest_run outside
      (λ last_outside. dead_goals solves.0 (IsState-run_of task list (start_state task) solves.0
      (IsState-start_state task) solves.1)
      (last_outside, solves.2) list solves (traverses_last task list solves.0 solves.1))

  -- the states outside a set are dead if it holds the initial state, and each step from it leads
  -- into it or to dead states
  pub progress_initial : Leads task S (λ s. S s ⊎ X s) → AreDead task X → S (start_state task)
      → AreDead task (λ s. S s → ⊥)
  progress_initial leads dead starts state is_state outside list solves t =
      along task list S (forward leads dead list solves) t.0 [] t.1 (start_state task) state t.2
      refl t.3 starts outside

  -- a set is dead if the initial state is outside it, and only states of it and dead ones lead into
  -- it
  pub regress_initial : LeadsBack task S (λ s. S s ⊎ X s) → AreDead task X
      → (S (start_state task) → ⊥) → AreDead task S
  regress_initial leads dead starts state is_state holds list solves t =
      along task list (λ s. S s → ⊥) (backward leads dead list solves) t.0 [] t.1 (start_state task)
      state t.2 refl t.3 starts
      (λ outside. outside holds)

-- there is no plan if the initial state is dead
pub none_from_start : (task : Strips) → Dead task (start_state task) → IsUnsolvable task
none_from_start task dead list solves = dead list solves (traverses_start task list)

-- there is no plan if every goal state is dead
pub none_to_goal : (task : Strips) → AreDead task (λ s. is_goal task s ≡ true) → IsUnsolvable task
none_to_goal task dead list solves =
    dead solves.0 (IsState-run_of task list (start_state task) solves.0 (IsState-start_state task)
    solves.1) solves.2 list solves
    (traverses_last task list solves.0 solves.1)
