-- Marks of the variables that effects are on.
use Rattle.std.proofs.Common.{◌≡◌, ℕ, ◌<◌, ◌∙◌, ◌||◌, Bool, true, false, List, [], ◌∷◌, ◌++◌}
use Rattle.std.proofs.Common.{length, set, replicate}
use Rattle.std.proofs.Common.{refl, sym, ap, arith, cond, eqb}
use Rattle.std.specs.List.{list_any}
use Rattle.std.proofs.lemmas.List.{get_or-replicate, length-replicate, length-set}
use Rattle.hv_task.specs.State.{has_atom}
use Rattle.hv_task.proofs.Places.{has_atom-set}
use Rattle.hv_sas.specs.declared.sas_task.Effect.{Effect}
use Rattle.hv_sas.specs.declared.sas_task.SasVariable.{SasVariable}
use Rattle.hv_sas.specs.Working.Reading.{AreMarked}

pub marked_none : (vs : List SasVariable) (n : ℕ) (marks : List Bool) → marks ≡ replicate n false
    → n ≡ length vs → AreMarked vs [] marks
marked_none vs n marks e size = record {
  count = ap length e ∙ length-replicate n false ∙ size;
  each = λ v within.
      let fits = ap length e ∙ length-replicate n false in
      ap (λ m. has_atom m v) e ∙ get_or-replicate n v false false (omega arith);
}

any_push : (es : List Effect) (e : Effect) (v : ℕ)
    → list_any (λ (x : Effect). eqb x.var v) (es ++ e ∷ [])
    ≡ (eqb e.var v || list_any (λ (x : Effect). eqb x.var v) es)
any_push [] e v = refl
any_push (x ∷ es) e v =
    ap (λ b. eqb x.var v || b) (any_push es e v)
    ∙ moved (eqb x.var v) (eqb e.var v) (list_any (λ (y : Effect). eqb y.var v) es)
  where
    moved : (a b c : Bool) → a || (b || c) ≡ b || (a || c)
    moved true true c = refl
    moved true false c = refl
    moved false true c = refl
    moved false false c = refl

chosen : (a b : Bool) → cond a true b ≡ (a || b)
chosen true b = refl
chosen false b = refl

pub marked_push : (vs : List SasVariable) (es : List Effect) (e : Effect) (marks : List Bool)
    → AreMarked vs es marks → AreMarked vs (es ++ e ∷ []) (set marks e.var true)
marked_push vs es e marks are = record {
  count = length-set marks e.var true ∙ are.count;
  each = λ v within.
      let size = length-set marks e.var true in
      let old : v < length marks = omega arith in
      has_atom-set marks e.var v true old ∙ chosen (eqb e.var v) (has_atom marks v)
      ∙ ap (λ b. eqb e.var v || b) (are.each v old) ∙ sym (any_push es e v);
}
