-- A list solves the made task exactly where it solves the finite-domain task.
use Rattle.std.proofs.Common.{◌≡◌, ℕ, ◌+◌, ◌∙◌, ◌↔◌, Bool, true, false, List, [], ◌∷◌}
use Rattle.std.proofs.Common.{Option}
use Rattle.std.proofs.Common.{None, Some, length, refl, sym, ap, subst, cond}
use Rattle.std.proofs.Common.{length-append}
use Rattle.std.specs.Prelude.{option_map, option_and_then}
use Rattle.std.specs.List.{All, flat_map, list_all, slice_get}
use Rattle.std.proofs.lemmas.List.Elements.{All-get_or}
use Rattle.std.proofs.lemmas.Option.{cond_some, get_or_from_slice_get, slice_get-map}
use Rattle.std.proofs.lemmas.Option.{slice_get_within}
use Rattle.hv_task.specs.State.{applicable, state_of, successor}
use Rattle.hv_task.specs.Strips.{is_goal, start_state}
use Rattle.hv_task.specs.Plan.{Solves, go_on, run_of, step_of}
use Rattle.hv_sas.specs.declared.sas_task.Sas.{Sas}
use Rattle.hv_sas.specs.declared.sas_task.SasOperator.{SasOperator}
use Rattle.hv_sas.specs.declared.sas_task.SasVariable.{SasVariable}
use Rattle.hv_sas.specs.Variables.{IsFact, values_in}
use Rattle.hv_sas.specs.Sound.{IsOperator, IsSoundSas, IsAssignment}
use Rattle.hv_sas.specs.Meaning.{SasSolves, has_fact, is_applicable, result_of, sas_run, sas_step}
use Rattle.hv_sas.specs.Made.{operator_action, fact_atoms, state_facts, strips_of}
use Rattle.hv_sas.proofs.Members.{all_of}
use Rattle.hv_sas.proofs.Atoms.{values-cons}
use Rattle.hv_sas.proofs.Effects.{put_state}
use Rattle.hv_sas.proofs.Coded.{all_coded, applicable_coded, coded}
use Rattle.hv_sas.proofs.Steps.{successor_coded}

-- as many atoms as values
pub length-names : (vs : List SasVariable)
    → length (flat_map (λ (x : SasVariable). x.values) vs) ≡ values_in vs
length-names [] = refl
length-names (x ∷ vs) =
    length-append x.values (flat_map (λ (y : SasVariable). y.values) vs)
    ∙ ap (λ n. length x.values + n) (length-names vs) ∙ sym (values-cons x vs)

-- the operators of a sound task, one by one
pub operator_is : (vs : List SasVariable) (ops : List SasOperator) (number : ℕ) (op : SasOperator)
    → All (IsOperator vs) ops → slice_get ops number ≡ Some op → IsOperator vs op
operator_is vs ops number op are named =
    subst (IsOperator vs) (get_or_from_slice_get ops number op op named)
    (All-get_or (IsOperator vs) ops number op (slice_get_within ops number op named) are)

-- One step.

stepped : (b c : Bool) (next : List Bool) (vs : List SasVariable) (result : List ℕ) → b ≡ c
    → (c ≡ true → next ≡ coded vs result)
    → cond b (Some next) None
    ≡ option_map {T = List ℕ} {U = List Bool} (coded vs) (cond c (Some result) None)
stepped b true next vs result e same = rw e (ap (λ t. Some t) (same refl))
stepped b false next vs result e same = rw e refl

step_coded : (sas : Sas) (s : List ℕ) (op : Option SasOperator) → IsAssignment sas.variables s
    → ((o : SasOperator) → op ≡ Some o → IsOperator sas.variables o)
    → step_of (option_map (operator_action sas) op) (coded sas.variables s)
    ≡ option_map (coded sas.variables) (sas_step op s)
step_coded sas s None is are = refl
step_coded sas s (Some op) is are =
    stepped (applicable (operator_action sas op) (coded sas.variables s)) (is_applicable op s)
    (successor (operator_action sas op) (coded sas.variables s)) sas.variables (result_of op s)
    (applicable_coded sas op s is (are op refl))
    (λ applies. successor_coded sas op s is (are op refl) applies)

step_state : (sas : Sas) (s : List ℕ) (op : Option SasOperator) (t : List ℕ)
    → IsAssignment sas.variables s → ((o : SasOperator) → op ≡ Some o → IsOperator sas.variables o)
    → sas_step op s ≡ Some t → IsAssignment sas.variables t
step_state sas s None t is are e = absurd cc
step_state sas s (Some op) t is are e =
    let parts = cond_some (is_applicable op s) (result_of op s) t e in
    subst (IsAssignment sas.variables) parts.1
    (put_state sas.variables op.effects s is (are op refl).effects)

-- Whole runs.

gone_on : (vs : List SasVariable) (more : List Bool → Option (List Bool))
    (sas_more : List ℕ → Option (List ℕ)) (o : Option (List ℕ))
    → ((t : List ℕ) → o ≡ Some t → more (coded vs t) ≡ option_map (coded vs) (sas_more t))
    → go_on more (option_map (coded vs) o) ≡ option_map (coded vs) (option_and_then sas_more o)
gone_on vs more sas_more None same = refl
gone_on vs more sas_more (Some t) same = same t refl

pub run_coded : (sas : Sas) (list : List ℕ) (s : List ℕ) → IsAssignment sas.variables s
    → All (IsOperator sas.variables) sas.operators
    → run_of (strips_of sas) list (coded sas.variables s)
    ≡ option_map (coded sas.variables) (sas_run sas list s)
run_coded sas [] s is are = refl
run_coded sas (number ∷ list) s is are =
    let named = λ (o : SasOperator) (e : slice_get sas.operators number ≡ Some o).
    operator_is sas.variables sas.operators number o are e in
    ap (go_on (run_of (strips_of sas) list))
    (ap (λ o. step_of o (coded sas.variables s))
    (slice_get-map (operator_action sas) sas.operators number)
    ∙ step_coded sas s (slice_get sas.operators number) is named)
    ∙ gone_on sas.variables (run_of (strips_of sas) list) (sas_run sas list)
    (sas_step (slice_get sas.operators number) s)
    (λ t e. run_coded sas list t
    (step_state sas s (slice_get sas.operators number) t is named e) are)

went_on : (more : List ℕ → Option (List ℕ)) (o : Option (List ℕ)) (last : List ℕ)
    → option_and_then more o ≡ Some last → (t : List ℕ) × (o ≡ Some t) × (more t ≡ Some last)
went_on more None last e = absurd cc
went_on more (Some t) last e = (t, refl, e)

run_state : (sas : Sas) (list : List ℕ) (s last : List ℕ) → IsAssignment sas.variables s
    → All (IsOperator sas.variables) sas.operators → sas_run sas list s ≡ Some last
    → IsAssignment sas.variables last
run_state sas [] s last is are e =
    subst (IsAssignment sas.variables) (let f : s ≡ last = cc in f) is
run_state sas (number ∷ list) s last is are e =
    let m = went_on (sas_run sas list) (sas_step (slice_get sas.operators number) s) last e in
    run_state sas list m.0 last
    (step_state sas s (slice_get sas.operators number) m.0 is
    (λ o f. operator_is sas.variables sas.operators number o are f) m.1) are m.2

mapped_from : (vs : List SasVariable) (o : Option (List ℕ)) (last : List Bool)
    → ◌≡◌ {A = Option (List Bool)} (option_map (coded vs) o) (Some last)
    → (t : List ℕ) × (o ≡ Some t) × (coded vs t ≡ last)
mapped_from vs None last e = absurd cc
mapped_from vs (Some t) last e = (t, refl, cc)

module _ (sas : Sas) (sound : IsSoundSas sas) where
  start_coded : start_state (strips_of sas) ≡ coded sas.variables sas.start
  start_coded =
      ap (λ n. state_of n (fact_atoms sas.variables (state_facts sas.start)))
      (length-names sas.variables)

  goal_coded : (s : List ℕ) → IsAssignment sas.variables s
      → is_goal (strips_of sas) (coded sas.variables s) ≡ list_all (has_fact s) sas.goal
  goal_coded s is =
      all_coded sas.variables s sas.goal is
      (λ f h. all_of (IsFact sas.variables) sas.goal f sound.goal h)

  from_start : (list : List ℕ) → run_of (strips_of sas) list (start_state (strips_of sas))
      ≡ option_map (coded sas.variables) (sas_run sas list sas.start)
  from_start list =
      ap (run_of (strips_of sas) list) start_coded
      ∙ run_coded sas list sas.start sound.start sound.operators

  last_is : (list last : List ℕ) → sas_run sas list sas.start ≡ Some last
      → IsAssignment sas.variables last
  last_is list last e = run_state sas list sas.start last sound.start sound.operators e

  pub keeps_plans : (list : List ℕ) → Solves (strips_of sas) list ↔ SasSolves sas list
  keeps_plans list = (
    λ solves.
        let m = mapped_from sas.variables (sas_run sas list sas.start) solves.0
        (sym (from_start list) ∙ solves.1) in (
          m.0,
          m.1,
          sym (goal_coded m.0 (last_is list m.0 m.1))
              ∙ ap (is_goal (strips_of sas)) m.2 ∙ solves.2,
        ),
    λ solves. (
      coded sas.variables solves.0,
      from_start list ∙ ap (option_map (coded sas.variables)) solves.1,
      goal_coded solves.0 (last_is list solves.0 solves.1) ∙ solves.2,
    ),
  )
