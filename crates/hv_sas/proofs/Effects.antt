-- What the effects of an operator make of a state, variable by variable.
use Rattle.std.proofs.Common.{◌≡◌, ◌≢◌, ℕ, suc, ◌<◌, ◌⊎◌, inl, inr, List, [], ◌∷◌, length}
use Rattle.std.proofs.Common.{set}
use Rattle.std.proofs.Common.{refl, sym, ap, subst, arith, ◌∙◌}
use Rattle.std.specs.List.{All, slice_index}
use Rattle.std.proofs.lemmas.Bool.{cases_eq}
use Rattle.std.proofs.lemmas.List.{get_or-set_other, length-set}
use Rattle.std.proofs.lemmas.List.Elements.{All-head, All-tail}
use Rattle.std.proofs.lemmas.Grind.{get_or-set_at}
use Rattle.hv_sas.specs.declared.sas_task.Effect.{Effect}
use Rattle.hv_sas.specs.declared.sas_task.SasVariable.{SasVariable}
use Rattle.hv_sas.specs.Variables.{IsEffectOn, range_at}
use Rattle.hv_sas.specs.Sound.{HaveDistinctVariables, IsAssignment}
use Rattle.hv_sas.specs.Meaning.{put_effects}
use Rattle.hv_sas.proofs.Members.{Has, all_of}

-- the effects of this list on the variable: one, or none
pub effect_on : (es : List Effect) (v : ℕ)
    → ((e : Effect) × Has e es × (e.var ≡ v)) ⊎ ((e : Effect) → Has e es → e.var ≡ v → ⊥)
effect_on [] v = inr (λ e h s. absurd h)
effect_on (x ∷ es) v =
    elim (cases_eq x.var v) [
      | inl same ↦ inl (x, inl refl, same)
      | inr other ↦
          elim (effect_on es v) [
            | inl found ↦ inl (found.0, inr found.1, found.2)
            | inr none ↦ inr (λ e h. elim h [
              | inl same ↦ λ s. other (ap (λ (y : Effect). y.var) same ∙ s)
              | inr k ↦ none e k
            ])
          ]
    ]

apart_first : (x : Effect) (es : List Effect) → HaveDistinctVariables (x ∷ es)
    → All (λ (e : Effect). x.var ≢ e.var) es
apart_first x es apart = λ k d within. apart 0 (suc k) d (omega arith) (omega arith)

apart_rest : (x : Effect) (es : List Effect) → HaveDistinctVariables (x ∷ es)
    → HaveDistinctVariables es
apart_rest x es apart = λ i j d less within. apart (suc i) (suc j) d (omega arith) (omega arith)

pub put_none : (es : List Effect) (s : List ℕ) (v : ℕ)
    → ((e : Effect) → Has e es → e.var ≡ v → ⊥)
    → slice_index (put_effects es s) v ≡ slice_index s v
put_none [] s v none = refl
put_none (x ∷ es) s v none =
    put_none es (set s x.var x.after) v (λ e h. none e (inr h))
    ∙ get_or-set_other s x.var v x.after 0 (λ e. none x (inl refl) (sym e))

pub put_some : (es : List Effect) (s : List ℕ) (e : Effect) → HaveDistinctVariables es → Has e es
    → e.var < length s → slice_index (put_effects es s) e.var ≡ e.after
put_some [] s e apart h within = absurd h
put_some (x ∷ es) s e apart (inl same) within =
    let var = ap (λ (y : Effect). y.var) same in
    put_none es (set s x.var x.after) e.var
    (λ o k f. all_of (λ (y : Effect). x.var ≢ y.var) es o (apart_first x es apart) k (var ∙ sym f))
    ∙ get_or-set_at s x.var e.var x.after 0 (sym var) (omega arith)
    ∙ ap (λ (y : Effect). y.after) same
put_some (x ∷ es) s e apart (inr k) within =
    put_some es (set s x.var x.after) e (apart_rest x es apart) k
    (subst (λ n. e.var < n) (sym (length-set s x.var x.after)) within)

set_state : (vs : List SasVariable) (s : List ℕ) (e : Effect) → IsAssignment vs s → IsEffectOn vs e
    → IsAssignment vs (set s e.var e.after)
set_state vs s e is effect = record {
  count = length-set s e.var e.after ∙ is.count;
  within = λ v within.
      let size = length-set s e.var e.after in
      elim (cases_eq v e.var) [
        | inl same ↦
            let value = get_or-set_at s e.var v e.after 0 same (omega arith) in
            let at_most = effect.after in
            let range = ap (range_at vs) same in omega arith
        | inr other ↦
            let value = get_or-set_other s e.var v e.after 0 other in
            let old = is.within v (omega arith) in omega arith
      ];
}

-- a state of the variables stays one
pub put_state : (vs : List SasVariable) (es : List Effect) (s : List ℕ) → IsAssignment vs s
    → All (IsEffectOn vs) es → IsAssignment vs (put_effects es s)
put_state vs [] s is effects = is
put_state vs (e ∷ es) s is effects =
    put_state vs es (set s e.var e.after)
    (set_state vs s e is (All-head (IsEffectOn vs) e es effects))
    (All-tail (IsEffectOn vs) e es effects)
