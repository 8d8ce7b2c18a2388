-- Runs of action lists: one after another, one more action, the first action.
use Rattle.std.proofs.Common.{◌≡◌, ℕ, ◌∙◌, Bool, true, List, [], ◌∷◌, ◌++◌, Option, Some, None}
use Rattle.std.proofs.Common.{refl, sym, ap, subst}
use Rattle.std.proofs.lemmas.Option.{cond_some}
use Rattle.std.proofs.lemmas.Bool.{cond-true}
use Rattle.std.specs.List.{slice_get}
use Rattle.hv_task.specs.declared.action.Action.{Action}
use Rattle.hv_task.specs.State.{applicable, successor}
use Rattle.hv_task.specs.Strips.{Strips, IsState}
use Rattle.hv_task.specs.Plan.{step_of, go_on, run_of}
use Rattle.hv_task.proofs.Places.{IsState-successor}

-- the state that a run went on from
pub go_on_from : (more : List Bool → Option (List Bool)) (state : Option (List Bool))
    (last : List Bool) → go_on more state ≡ Some last
    → (middle : List Bool) × (state ≡ Some middle) × (more middle ≡ Some last)
go_on_from more None last h = absurd (cc)
go_on_from more (Some middle) last h = (middle, refl, h)

-- an action that is there and applicable leads to its successor
pub step_of-Some : (action : Option Action) (a : Action) (state : List Bool) → action ≡ Some a
    → applicable a state ≡ true
    → step_of action state ≡ Some (successor a state)
step_of-Some action a state e h =
    ap (λ o. step_of o state) e ∙ cond-true (applicable a state) (Some (successor a state)) None h

-- a step is by an action that is there and applicable
pub step_parts : (action : Option Action) (state next : List Bool)
    → step_of action state ≡ Some next
    → (a : Action) × (action ≡ Some a) × (applicable a state ≡ true) × (successor a state ≡ next)
step_parts None state next h = absurd (cc)
step_parts (Some a) state next h =
    let parts = cond_some (applicable a state) (successor a state) next h in
    (a, refl, parts.0, parts.1)

-- the first action of a run, and what is left of it
pub first_step : (task : Strips) (number : ℕ) (rest : List ℕ) (state last : List Bool)
    → run_of task (number ∷ rest) state ≡ Some last
    → (a : Action) × (slice_get task.actions number ≡ Some a) × (applicable a state ≡ true)
    × (run_of task rest (successor a state) ≡ Some last)
first_step task number rest state last h =
    let step = go_on_from (run_of task rest) (step_of (slice_get task.actions number) state) last
    h in
    let parts = step_parts (slice_get task.actions number) state step.0 step.1 in
    (parts.0, parts.1, parts.2, subst (λ s. run_of task rest s ≡ Some last) (sym parts.3) step.2)

-- a run with an action in front
pub run_first : (task : Strips) (number : ℕ) (rest : List ℕ) (state : List Bool) (a : Action)
    → slice_get task.actions number ≡ Some a
    → applicable a state ≡ true → run_of task (number ∷ rest) state
    ≡ run_of task rest (successor a state)
run_first task number rest state a named applies =
    ap (go_on (run_of task rest)) (step_of-Some (slice_get task.actions number) a state named
    applies)

-- the run of a list from where the run of another ended
pub run_rest : (task : Strips) (front rest : List ℕ) (state middle : List Bool)
    → run_of task front state ≡ Some middle
    → run_of task (front ++ rest) state ≡ run_of task rest middle
run_rest task [] rest state middle h = ap (go_on (run_of task rest)) h
run_rest task (number ∷ front) rest state middle h =
    let step = first_step task number front state middle h in
    run_first task number (front ++ rest) state step.0 step.1 step.2
    ∙ run_rest task front rest (successor step.0 state) middle step.3

-- a run with one more action
pub run_more : (task : Strips) (front : List ℕ) (number : ℕ) (state middle : List Bool) (a : Action)
    → run_of task front state ≡ Some middle
    → slice_get task.actions number ≡ Some a → applicable a middle ≡ true
    → run_of task (front ++ number ∷ []) state ≡ Some (successor a middle)
run_more task front number state middle a run named applies =
    run_rest task front (number ∷ []) state middle run
    ∙ run_first task number [] middle a named applies

-- a run leads from states of the task to states of the task
pub IsState-run_of : (task : Strips) (list : List ℕ) (state last : List Bool) → IsState task state
    → run_of task list state ≡ Some last
    → IsState task last
IsState-run_of task [] state last is_state h = subst (IsState task) (let e : state ≡ last = cc in e)
    is_state
IsState-run_of task (number ∷ list) state last is_state h =
    let step = first_step task number list state last h in
    IsState-run_of task list (successor step.0 state) last
    (IsState-successor task step.0 state is_state) step.3
