-- What the action of an operator makes of the coded state.
use Rattle.std.proofs.Common.{◌≡◌, ℕ, ◌<◌, ◌∙◌, inl, inr, Bool, true, false}
use Rattle.std.proofs.Common.{not}
use Rattle.std.proofs.Common.{◌&&◌, ◌||◌, List, Option, None, Some, IfSome, length, map, refl}
use Rattle.std.proofs.Common.{sym, ap}
use Rattle.std.proofs.Common.{subst, arith, eqb}
use Rattle.std.specs.Prelude.{◌==◌, option_map}
use Rattle.std.specs.Option.{option_map_or}
use Rattle.std.specs.List.{flat_map, list_all, range_with_len, slice_index}
use Rattle.std.proofs.lemmas.Bool.{cases_eq, eq-eqb, eqb-true}
use Rattle.hv_task.specs.State.{has_atom, names_atom, successor}
use Rattle.hv_task.proofs.Places.{has_atom-successor, length-state_of, length-successor, same_state}
use Rattle.hv_sas.specs.declared.sas_task.Effect.{Effect}
use Rattle.hv_sas.specs.declared.sas_task.Fact.{Fact}
use Rattle.hv_sas.specs.declared.sas_task.Sas.{Sas}
use Rattle.hv_sas.specs.declared.sas_task.SasOperator.{SasOperator}
use Rattle.hv_sas.specs.declared.sas_task.SasVariable.{SasVariable}
use Rattle.hv_sas.specs.Variables.{IsEffectOn, IsFact, range_at, values_in}
use Rattle.hv_sas.specs.Sound.{IsOperator, IsAssignment}
use Rattle.hv_sas.specs.Meaning.{has_fact, holds_before, is_applicable, put_effects, result_of}
use Rattle.hv_sas.specs.Made.{fact_after, fact_atom, fact_atoms, fact_before, facts_gone}
use Rattle.hv_sas.specs.Made.{operator_action}
use Rattle.hv_sas.specs.Made.{facts_on, state_facts}
use Rattle.hv_sas.proofs.Members.{Has, all_from, all_of, filter_from, filter_has}
use Rattle.hv_sas.proofs.Members.{flat_map_from}
use Rattle.hv_sas.proofs.Members.{flat_map_has, map_from, map_has, range_from, range_has}
use Rattle.hv_sas.proofs.Members.{same_truth}
use Rattle.hv_sas.proofs.Members.{both, either, left_true, right_true, first_true, second_true}
use Rattle.hv_sas.proofs.Atoms.{atom_found, range_within}
use Rattle.hv_sas.proofs.Effects.{effect_on, put_none, put_some, put_state}
use Rattle.hv_sas.proofs.Coded.{coded, fact_path, has_coded, named_back, named_has}

not_true : (b : Bool) → (b ≡ true → ⊥) → not b ≡ true
not_true true h = absurd (h refl)
not_true false h = refl

-- The facts that an effect makes false.

gone_has : (vs : List SasVariable) (e : Effect) (f : Fact) (s : List ℕ) (before : Option ℕ)
    → option_map_or (λ x. slice_index s e.var == x) before true ≡ true → e.var ≡ f.var
    → IsFact vs f → slice_index s f.var ≡ f.value → (e.after ≡ f.value → ⊥)
    → Has f (facts_gone vs e (option_map (λ x. record { var = e.var; value = x }) before))
gone_has vs e f s None holds_now same is now other =
    let fact : ℕ → Fact = λ x. record { var = e.var; value = x } in
    let range : f.value < range_at vs e.var = subst (λ v. f.value < range_at vs v) (sym same) is in
    filter_has (λ (g : Fact). not (g.value == e.after)) (facts_on vs e.var) f
    (not_true (eqb f.value e.after) (λ t. other (sym (eqb-true f.value e.after t))))
    (subst (λ g. Has g (facts_on vs e.var)) (fact_path f e.var f.value same refl)
    (map_has fact (range_with_len 0 (range_at vs e.var)) f.value
    (range_has 0 (range_at vs e.var) f.value (omega arith) (omega arith))))
gone_has vs e f s (Some x) holds_now same is now other =
    inl (fact_path f e.var x same
    (sym (eqb-true (slice_index s e.var) x holds_now) ∙ ap (slice_index s) same ∙ now))

gone_from : (vs : List SasVariable) (e : Effect) (f : Fact) (before : Option ℕ)
    → IfSome before (λ x. x < range_at vs e.var)
    → Has f (facts_gone vs e (option_map (λ x. record { var = e.var; value = x }) before))
    → (e.var ≡ f.var) × IsFact vs f
gone_from vs e f None is h =
    let fact : ℕ → Fact = λ x. record { var = e.var; value = x } in
    let k = filter_from (λ (g : Fact). not (g.value == e.after)) (facts_on vs e.var) f h in
    let m = map_from fact (range_with_len 0 (range_at vs e.var)) f k.0 in
    let w = range_from 0 (range_at vs e.var) m.0 m.1 in
    let below : m.0 < range_at vs e.var = let l = w.1 in omega arith in (
      ap (λ (g : Fact). g.var) m.2,
      subst (λ g. IsFact vs g) m.2 below,
    )
gone_from vs e f (Some x) is (inl same) =
    (ap (λ (g : Fact). g.var) same, subst (λ g. IsFact vs g) same is)
gone_from vs e f (Some x) is (inr none) = absurd none

-- One fact after an operator.
module _ (sas : Sas) (op : SasOperator) (s : List ℕ) (is : IsAssignment sas.variables s)
    (operator : IsOperator sas.variables op) (applies : is_applicable op s ≡ true) (f : Fact)
    (fact : IsFact sas.variables f)
  where
    abbrev vs : List SasVariable
    vs = sas.variables

    abbrev gone : Effect → List Fact
    gone e = facts_gone vs e (fact_before e)

    abbrev added : Bool
    added = names_atom (fact_atoms vs (map fact_after op.effects)) (fact_atom vs f)

    abbrev deleted : Bool
    deleted = names_atom (fact_atoms vs (flat_map gone op.effects)) (fact_atom vs f)

    abbrev now : List ℕ
    now = put_effects op.effects s

    effect_is : (e : Effect) → Has e op.effects → IsEffectOn vs e
    effect_is e h = all_of (IsEffectOn vs) op.effects e operator.effects h

    after_now : (e : Effect) → Has e op.effects → slice_index now e.var ≡ e.after
    after_now e h =
        let effect = effect_is e h in
        let within = range_within vs e.var e.after effect.after in
        let size = is.count in put_some op.effects s e operator.apart h (omega arith)

    after_are : (g : Fact) → Has g (map fact_after op.effects) → IsFact vs g
    after_are g h =
        let m = map_from fact_after op.effects g h in
        subst (λ k. IsFact vs k) m.2 (effect_is m.0 m.1).after

    gone_are : (g : Fact) → Has g (flat_map gone op.effects) → IsFact vs g
    gone_are g h =
        let m = flat_map_from gone op.effects g h in
        (gone_from vs m.0 g m.0.before (effect_is m.0 m.1).before m.2).1

    -- what is added holds afterwards
    added_now : added ≡ true → has_fact now f ≡ true
    added_now e =
        let h = named_back vs (map fact_after op.effects) f after_are fact e in
        let m = map_from fact_after op.effects f h in
        let var : m.0.var ≡ f.var = ap (λ (g : Fact). g.var) m.2 in
        let value : m.0.after ≡ f.value = ap (λ (g : Fact). g.value) m.2 in
        eq-eqb (slice_index now f.var) f.value
        (ap (slice_index now) (sym var) ∙ after_now m.0 m.1 ∙ value)

    -- an effect on the variable that makes another value deletes the fact, where it held
    deleted_by : (e : Effect) → Has e op.effects → e.var ≡ f.var → has_fact s f ≡ true
        → (e.after ≡ f.value → ⊥) → deleted ≡ true
    deleted_by e h same held other =
        named_has vs (flat_map gone op.effects) f fact
        (flat_map_has gone op.effects e f h
        (gone_has vs e f s e.before
        (all_from (holds_before s) op.effects e
        (second_true (list_all (has_fact s) op.prevail) (list_all (holds_before s) op.effects)
        applies) h)
        same fact (eqb-true (slice_index s f.var) f.value held) other))

    stays_now : deleted ≡ false → has_fact s f ≡ true → has_fact now f ≡ true
    stays_now kept held =
        elim (effect_on op.effects f.var) [
          | inl found ↦
              elim (cases_eq found.0.after f.value) [
                | inl same ↦ eq-eqb (slice_index now f.var) f.value
                    (ap (slice_index now) (sym found.2) ∙ after_now found.0 found.1 ∙ same)
                | inr other ↦
                    let gone_too = deleted_by found.0 found.1 found.2 held other in absurd (cc)
              ]
          | inr none ↦ ap (λ x. eqb x f.value) (put_none op.effects s f.var none) ∙ held
        ]

    not_false : (b : Bool) → not b ≡ true → b ≡ false
    not_false true e = absurd cc
    not_false false e = refl

    after_from : added || (not deleted && has_fact s f) ≡ true → has_fact now f ≡ true
    after_from e =
        elim (either added (not deleted && has_fact s f) e) [
          | inl a ↦ added_now a
          | inr k ↦ stays_now (not_false deleted (first_true (not deleted) (has_fact s f) k))
              (second_true (not deleted) (has_fact s f) k)
        ]

    -- what holds afterwards was added, or held before and isn't deleted
    after_has : has_fact now f ≡ true → added || (not deleted && has_fact s f) ≡ true
    after_has e =
        elim (effect_on op.effects f.var) [
          | inl found ↦
              let value : found.0.after ≡ f.value = sym (after_now found.0 found.1)
              ∙ ap (slice_index now) found.2 ∙ eqb-true (slice_index now f.var) f.value e in
              left_true added (not deleted && has_fact s f)
              (named_has vs (map fact_after op.effects) f fact
              (subst (λ g. Has g (map fact_after op.effects))
              (fact_path f found.0.var found.0.after found.2 value)
              (map_has fact_after op.effects found.0 found.1)))
          | inr none ↦
              right_true added (not deleted && has_fact s f)
              (both (not deleted) (has_fact s f)
              (not_true deleted (λ d.
              let h = named_back vs (flat_map gone op.effects) f gone_are fact d in
              let m = flat_map_from gone op.effects f h in
              none m.0 m.1 (gone_from vs m.0 f m.0.before (effect_is m.0 m.1).before m.2).0))
              (ap (λ x. eqb x f.value) (sym (put_none op.effects s f.var none)) ∙ e))
        ]

    pub after_is : (added || (not deleted && has_fact s f)) ≡ has_fact now f
    after_is =
        same_truth (added || (not deleted && has_fact s f)) (has_fact now f) after_from after_has

-- the successor of the coded state is the coded result
pub successor_coded : (sas : Sas) (op : SasOperator) (s : List ℕ) → IsAssignment sas.variables s
    → IsOperator sas.variables op → is_applicable op s ≡ true
    → successor (operator_action sas op) (coded sas.variables s)
    ≡ coded sas.variables (result_of op s)
successor_coded sas op s is operator applies =
    let vs = sas.variables in
    let n = values_in vs in
    let size = length-state_of n (fact_atoms vs (state_facts s)) in
    let new_size = length-state_of n (fact_atoms vs (state_facts (result_of op s))) in
    let kept = length-successor (operator_action sas op) (coded vs s) in
    same_state (successor (operator_action sas op) (coded vs s)) (coded vs (result_of op s))
    (kept ∙ size ∙ sym new_size)
    (λ p within.
    let below : p < length (coded vs s) = omega arith in
    let m = atom_found vs p (omega arith) in
    let after = put_state vs op.effects s is operator.effects in
    has_atom-successor (operator_action sas op) (coded vs s) p below
    ∙ subst (λ q.
    (names_atom (operator_action sas op).add q || (not (names_atom (operator_action sas op).del q)
    && has_atom (coded vs s) q)) ≡ has_atom (coded vs (result_of op s)) q) m.2
    (ap (λ b. names_atom (operator_action sas op).add (fact_atom vs m.0)
    || (not (names_atom (operator_action sas op).del (fact_atom vs m.0)) && b))
    (has_coded vs s m.0 is m.1)
    ∙ after_is sas op s is operator applies m.0 m.1
    ∙ sym (has_coded vs (result_of op s) m.0 after m.1)))
