-- The made task has a plan exactly where the given one has a plan that costs at most so much.
use Rattle.std.proofs.Common.{◌≡◌, ℕ, zero, suc, ◌+◌, ◌-◌, ◌<◌, ◌≤◌, ◌⊎◌, ◌∙◌, Bool, true, false}
use Rattle.std.proofs.Common.{◌&&◌, List, [], ◌∷◌, ◌++◌}
use Rattle.std.proofs.Common.{Some, eqb, length-append, map, refl, sym, ap, subst, arith, inl, inr}
use Rattle.std.proofs.lemmas.Bool.{cases_eq, cases_lt, cond-true, cond-false, eq-eqb, ne_eqb}
use Rattle.std.proofs.lemmas.List.FromFn.{length-map-range_with_len}
use Rattle.std.proofs.lemmas.List.Sums.{sum_by-cons}
use Rattle.std.specs.List.{slice_get}
use Rattle.hv_task.specs.declared.action.Action.{Action}
use Rattle.hv_task.specs.State.{applicable, successor}
use Rattle.hv_task.specs.Strips.{IsOver, IsTask, Strips, atoms, start_state}
use Rattle.hv_task.specs.Plan.{IsUnsolvable, Solves, run_of}
use Rattle.hv_task.proofs.Places.{has_atom-state_of, length-state_of}
use Rattle.hv_task.proofs.Runs.{first_step, run_first}
use Rattle.hv_task.proofs.Tasks.{IsOver-action}
use Rattle.hv_bound.specs.Bounded.{amounts, bounded_task, copies, free_copy, counter_name}
use Rattle.hv_bound.specs.Bounded.{paid_copy}
use Rattle.hv_bound.specs.Costs.{IsSolvable, IsSolvableWithin, cost_at, cost_of_list}
use Rattle.hv_bound.proofs.Standing.{flat_stands, map_stands, range_stands, stands_flat, stands_map}
use Rattle.hv_bound.proofs.Standing.{stands_range}
use Rattle.hv_bound.proofs.Spent.{Leaves, free_applies, free_step, has_all_same, names_new}
use Rattle.hv_bound.proofs.Spent.{names_old}
use Rattle.hv_bound.proofs.Spent.{paid_applies, paid_step}

-- the action of the made task is a copy of this one
abbrev pub IsCopy : ℕ → ℕ → ℕ → Action → Action → Type 0
IsCopy first most number action made =
    ((action.cost ≡ 0) × (made ≡ free_copy number action))
    ⊎ ((left : ℕ) × (action.cost ≤ left) × (left ≤ most)
    × (made ≡ paid_copy first number action left))

amounts_from : (least most j : ℕ) → least ≤ j → j ≤ most
    → (k : ℕ) × (slice_get (amounts least most) k ≡ Some j)
amounts_from least most j from upto =
    stands_range least (most + 1 - least) j from (omega arith)

copy_stands : (first most number : ℕ) (a : Action) (k : ℕ) (made : Action)
    → slice_get (copies first most number a) k ≡ Some made → IsCopy first most number a made
copy_stands first most number a k made h =
    elim (cases_eq a.cost 0) [
      | inl e ↦ inl (
        e,
        alone k (subst (λ xs. slice_get xs k ≡ Some made)
            (cond-true (eqb a.cost 0) (free_copy number a ∷ [])
            (map (paid_copy first number a) (amounts a.cost most)) (eq-eqb a.cost 0 e)) h),
      )
      | inr ne ↦
          let at = map_stands (paid_copy first number a) (amounts a.cost most) k made
          (subst (λ xs. slice_get xs k ≡ Some made)
          (cond-false (eqb a.cost 0) (free_copy number a ∷ [])
          (map (paid_copy first number a) (amounts a.cost most)) (ne_eqb a.cost 0 ne)) h) in
          let range = range_stands a.cost (most + 1 - a.cost) k at.0 at.1 in
          let low = range.0 in let high = range.1 in
          inr (at.0, low, omega arith, sym at.2)
    ]
  where
    alone : (k : ℕ) → slice_get (free_copy number a ∷ []) k ≡ Some made
        → made ≡ free_copy number a
    alone zero h = cc
    alone (suc k) h = absurd cc

-- the copies that each action has in the made task
free_stands : (first most number : ℕ) (a : Action) → a.cost ≡ 0
    → slice_get (copies first most number a) zero ≡ Some (free_copy number a)
free_stands first most number a e =
    subst (λ xs. slice_get xs zero ≡ Some (free_copy number a))
    (sym (cond-true (eqb a.cost 0) (free_copy number a ∷ [])
    (map (paid_copy first number a) (amounts a.cost most)) (eq-eqb a.cost 0 e))) refl

paid_stands : (first most number : ℕ) (a : Action) (j : ℕ) → (a.cost ≡ 0 → ⊥) → a.cost ≤ j
    → j ≤ most
    → (k : ℕ) × (slice_get (copies first most number a) k ≡ Some (paid_copy first number a j))
paid_stands first most number a j ne from upto =
    let at = amounts_from a.cost most j from upto in (
      at.0,
      subst (λ xs. slice_get xs at.0 ≡ Some (paid_copy first number a j))
          (sym (cond-false (eqb a.cost 0) (free_copy number a ∷ [])
          (map (paid_copy first number a) (amounts a.cost most)) (ne_eqb a.cost 0 ne)))
          (stands_map (paid_copy first number a) (amounts a.cost most) at.0 j at.1),
    )

-- each action of the made task is a copy of one of the given task
pub origin : (task : Strips) (most k : ℕ) (made : Action)
    → slice_get (bounded_task task most).actions k ≡ Some made
    → (i : ℕ) × (a : Action) × (slice_get task.actions i ≡ Some a)
    × IsCopy (atoms task) most i a made
origin task most k made h =
    let at = flat_stands (λ (number, action). copies (atoms task) most number action)
    task.actions 0 k made h in
    let place = at.4 in
    let same : at.2 ≡ at.0 = omega arith in (
      at.0,
      at.1,
      at.5,
      copy_stands (atoms task) most at.0 at.1 at.3 made
          (subst (λ n. slice_get (copies (atoms task) most n at.1) at.3 ≡ Some made) same at.6),
    )

-- and each copy of an action is in the made task
made_stands : (task : Strips) (most i : ℕ) (a made : Action) (k : ℕ)
    → slice_get task.actions i ≡ Some a
    → slice_get (copies (atoms task) most i a) k ≡ Some made
    → (l : ℕ) × (slice_get (bounded_task task most).actions l ≡ Some made)
made_stands task most i a made k named at =
    stands_flat (λ (number, action). copies (atoms task) most number action) task.actions 0 i i a k
    made (omega arith) named at

-- what costs are left to spend after the first action
cost_first : (task : Strips) (i : ℕ) (a : Action) (list : List ℕ)
    → slice_get task.actions i ≡ Some a
    → cost_of_list task (i ∷ list) ≡ a.cost + cost_of_list task list
cost_first task i a list named =
    sum_by-cons (λ number. cost_at (slice_get task.actions number)) i list
    ∙ ap (λ o. cost_at o + cost_of_list task list) named

and_parts : (x y : Bool) → (x && y) ≡ true → (x ≡ true) × (y ≡ true)
and_parts true y h = (refl, h)
and_parts false y h = absurd cc

eqb_means : (l j : ℕ) → eqb l j ≡ true → l ≡ j
eqb_means l j h =
    elim (cases_eq l j) [
      | inl e ↦ e
      | inr ne ↦ absurd (let f : eqb l j ≡ false = ne_eqb l j ne in cc)
    ]

-- one step of the made task is one of the given task, and what is left falls by its cost
step_back : (n most i : ℕ) (a made : Action) (s t : List Bool) (j : ℕ) → IsOver n a
    → Leaves n most s j t → IsCopy n most i a made → applicable made t ≡ true
    → (applicable a s ≡ true) × (left : ℕ) × (a.cost + left ≡ j)
    × Leaves n most (successor a s) left (successor made t)
step_back n most i a made s t j over leaves (inl free) applies =
    let e = free.1 in (
      sym (free_applies n most a s t j over leaves)
          ∙ ap (λ x. applicable x t) (sym e) ∙ applies,
      j,
      let c = free.0 in omega arith,
      subst (λ x. Leaves n most (successor a s) j (successor x t)) (sym e)
          (free_step n most a s t j over leaves),
    )
step_back n most i a made s t j over leaves (inr paid) applies =
    let e = paid.3 in
    let parts = and_parts (applicable a s) (eqb paid.0 j)
    (sym (paid_applies n most a s t j over leaves i paid.0 paid.2)
    ∙ ap (λ x. applicable x t) (sym e) ∙ applies) in
    let same = eqb_means paid.0 j parts.1 in
    let pays : a.cost ≤ j = let c = paid.1 in omega arith in (
      parts.0,
      j - a.cost,
      omega arith,
      subst (λ x. Leaves n most (successor a s) (j - a.cost) (successor x t))
          (sym (e ∙ ap (paid_copy n i a) same))
          (paid_step n most a s t j over leaves i pays),
    )

-- one step of the given task that what is left pays for is one of the made task
step_on : (task : Strips) (most i : ℕ) (a : Action) (s t : List Bool) (j : ℕ)
    → IsOver (atoms task) a
    → Leaves (atoms task) most s j t → slice_get task.actions i ≡ Some a → a.cost ≤ j
    → applicable a s ≡ true
    → (k : ℕ) × (made : Action) × (slice_get (bounded_task task most).actions k ≡ Some made)
    × (applicable made t ≡ true) × (left : ℕ) × (a.cost + left ≡ j)
    × Leaves (atoms task) most (successor a s) left (successor made t)
step_on task most i a s t j over leaves named pays applies =
    elim (cases_eq a.cost 0) [
      | inl e ↦
          let at = made_stands task most i a (free_copy i a) zero named
          (free_stands (atoms task) most i a e) in (
            at.0,
            free_copy i a,
            at.1,
            free_applies (atoms task) most a s t j over leaves ∙ applies,
            j,
            omega arith,
            free_step (atoms task) most a s t j over leaves,
          )
      | inr ne ↦
          let copy = paid_stands (atoms task) most i a j ne pays leaves.within in
          let at = made_stands task most i a (paid_copy (atoms task) i a j) copy.0 named copy.1 in (
            at.0,
            paid_copy (atoms task) i a j,
            at.1,
            paid_applies (atoms task) most a s t j over leaves i j leaves.within
                ∙ ap (λ b. b && eqb j j) applies ∙ eq-eqb j j refl,
            j - a.cost,
            omega arith,
            paid_step (atoms task) most a s t j over leaves i pays,
          )
    ]

-- a run of the made task is one of the given task, and what is left falls by its cost
run_back : (task : Strips) (most : ℕ) (is_task : IsTask task) (list : List ℕ) (s t last : List Bool)
    (j : ℕ) → Leaves (atoms task) most s j t
    → run_of (bounded_task task most) list t ≡ Some last
    → (own : List ℕ) × (end : List Bool) × (left : ℕ) × (run_of task own s ≡ Some end)
    × Leaves (atoms task) most end left last × (cost_of_list task own + left ≡ j)
run_back task most is_task [] s t last j leaves run = (
  [],
  s,
  j,
  refl,
  subst (Leaves (atoms task) most s j) (let e : t ≡ last = cc in e) leaves,
  omega arith,
)
run_back task most is_task (k ∷ list) s t last j leaves run =
    let first = first_step (bounded_task task most) k list t last run in
    let from = origin task most k first.0 first.1 in
    let over = IsOver-action task from.0 from.1 is_task from.2 in
    let step = step_back (atoms task) most from.0 from.1 first.0 s t j over leaves from.3 first.2 in
    let rest = run_back task most is_task list (successor from.1 s) (successor first.0 t) last
    step.1 step.3 first.3 in
    let costs = cost_first task from.0 from.1 rest.0 from.2 in
    let sums = rest.5 in let paid = step.2 in (
      from.0 ∷ rest.0,
      rest.1,
      rest.2,
      run_first task from.0 rest.0 s from.1 from.2 step.0 ∙ rest.3,
      rest.4,
      omega arith,
    )

-- a run of the given task that what is left pays for is one of the made task
run_on : (task : Strips) (most : ℕ) (is_task : IsTask task) (list : List ℕ) (s t last : List Bool)
    (j : ℕ) → Leaves (atoms task) most s j t → run_of task list s ≡ Some last
    → cost_of_list task list ≤ j
    → (made : List ℕ) × (end : List Bool) × (left : ℕ)
    × (run_of (bounded_task task most) made t ≡ Some end) × Leaves (atoms task) most last left end
run_on task most is_task [] s t last j leaves run pays =
    let same : s ≡ last = cc in
    ([], t, j, refl, subst (λ x. Leaves (atoms task) most x j t) same leaves)
run_on task most is_task (i ∷ list) s t last j leaves run pays =
    let first = first_step task i list s last run in
    let costs = cost_first task i first.0 list first.1 in
    let over = IsOver-action task i first.0 is_task first.1 in
    let step = step_on task most i first.0 s t j over leaves first.1 (omega arith) first.2 in
    let sums = step.5 in
    let rest = run_on task most is_task list (successor first.0 s) (successor step.1 t) last step.4
    step.6 first.3 (omega arith) in (
      step.0 ∷ rest.0,
      rest.1,
      rest.2,
      run_first (bounded_task task most) step.0 rest.0 t step.1 step.2 step.3 ∙ rest.3,
      rest.4,
    )

pub atoms-bounded_task : (task : Strips) (most : ℕ)
    → atoms (bounded_task task most) ≡ atoms task + (most + 1)
atoms-bounded_task task most =
    length-append task.names (map counter_name (amounts 0 most))
    ∙ ap (λ n. atoms task + n) (length-map-range_with_len counter_name 0 (most + 1 - 0)
    ∙ (let e : most + 1 - 0 ≡ most + 1 = omega arith in e))

-- at the start all of it is left
starts : (task : Strips) (most : ℕ) → IsTask task
    → Leaves (atoms task) most (start_state task) most (start_state (bounded_task task most))
starts task most is_task =
    let size = atoms-bounded_task task most in
    let n = atoms task in
    record {
      small = length-state_of (atoms task) task.start;
      large = length-state_of (atoms (bounded_task task most)) (task.start ++ (n + most) ∷ [])
          ∙ size;
      within = omega arith;
      same = λ p less.
          has_atom-state_of (atoms (bounded_task task most)) (task.start ++ (n + most) ∷ []) p
          (omega arith)
          ∙ names_old n task.start (n + most) p (omega arith) less
          ∙ sym (has_atom-state_of n task.start p less);
      tells = λ q upto.
          has_atom-state_of (atoms (bounded_task task most)) (task.start ++ (n + most) ∷ []) (n + q)
          (omega arith)
          ∙ names_new n task.start (n + most) (n + q) is_task.start (omega arith)
          ∙ same_flags n most q;
    }
  where
    same_flags : (n most q : ℕ) → eqb (n + most) (n + q) ≡ eqb q most
    same_flags n most q =
        elim (cases_eq q most) [
          | inl e ↦ eq-eqb (n + most) (n + q) (omega arith) ∙ sym (eq-eqb q most e)
          | inr ne ↦ ne_eqb (n + most) (n + q) (λ e. ne (omega arith)) ∙ sym (ne_eqb q most ne)
        ]

pub within_of_plan : (task : Strips) (most : ℕ) → IsTask task → IsSolvable (bounded_task task most)
    → IsSolvableWithin most task
within_of_plan task most is_task (list, (last, run, holds)) =
    let own = run_back task most is_task list (start_state task)
    (start_state (bounded_task task most)) last most (starts task most is_task) run in
    let costs = own.5 in (
      own.0,
      (
        own.1,
        own.3,
        sym (has_all_same (atoms task) task.goal own.1 last is_task.goal own.4.same) ∙ holds,
      ),
      omega arith,
    )

pub plan_of_within : (task : Strips) (most : ℕ) → IsTask task → IsSolvableWithin most task
    → IsSolvable (bounded_task task most)
plan_of_within task most is_task (list, (last, run, holds), costs) =
    let made = run_on task most is_task list (start_state task)
    (start_state (bounded_task task most)) last most (starts task most is_task) run costs in (
      made.0,
      (
        made.1,
        made.3,
        has_all_same (atoms task) task.goal last made.1 is_task.goal made.4.same ∙ holds,
      ),
    )

-- where the made task has no plan, each plan of the given one costs more
pub costs_more : (task : Strips) (most : ℕ) → IsTask task → IsUnsolvable (bounded_task task most)
    → (list : List ℕ) → Solves task list → most < cost_of_list task list
costs_more task most is_task none list solves =
    elim (cases_lt most (cost_of_list task list)) [
      | inl more ↦ more
      | inr upto ↦
          let plan = plan_of_within task most is_task (list, solves, upto) in
          absurd (none plan.0 plan.1)
    ]
