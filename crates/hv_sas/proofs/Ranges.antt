-- Ranges of variables of which there are few.
use Rattle.std.proofs.Common.{◌≡◌, ℕ, ◌+◌, ◌<◌, ◌≤◌, ◌++◌, List, ap, arith, subst, sym}
use Rattle.std.proofs.lemmas.List.Elements.{All-head, All-push, All-tail}
use Rattle.std.proofs.lemmas.List.Sums.{sum_by-append}
use Rattle.hv_sas.specs.declared.sas_task.SasVariable.{SasVariable}
use Rattle.hv_sas.specs.Variables.{range_at, values_in}
use Rattle.hv_sas.specs.Working.Reading.{AreVariables}
use Rattle.hv_sas.proofs.Atoms.{range_within, values-cons}
use Rattle.hv_sas.proofs.Making.{few_at, few_variables}
use Rattle.hv_sas.specs.Sound.{HaveValues}
use Rattle.std.proofs.Common.{[], ◌∷◌, zero, suc, length}

have_at : (vs : List SasVariable) → HaveValues vs → (v : ℕ) → v < length vs → 0 < range_at vs v
have_at [] have v within = absurd (omega arith)
have_at (x ∷ vs) have zero within =
    All-head (λ (y : SasVariable). 0 < length y.values) x vs have
have_at (x ∷ vs) have (suc v) within =
    have_at vs (All-tail (λ (y : SasVariable). 0 < length y.values) x vs have) v (omega arith)

pub range_few : (vs : List SasVariable) (v : ℕ) → AreVariables vs → range_at vs v ≤ 65535
range_few vs v are = let few = few_at vs v in let most = are.few in omega arith

pub variables_few : (vs : List SasVariable) → AreVariables vs → length vs ≤ 65535
variables_few vs are =
    let few = few_variables vs (have_at vs are.each) in
    let most = are.few in omega arith

pub variable_few : (vs : List SasVariable) (v : ℕ) → AreVariables vs → 0 < range_at vs v → v ≤ 65535
variable_few vs v are some =
    let few = variables_few vs are in
    let within = range_within vs v 0 some in omega arith

-- one more variable

pub values_push : (vs new : List SasVariable) (x : SasVariable) (used range : ℕ)
    → new ≡ vs ++ x ∷ [] → used ≡ values_in vs → length x.values ≡ range
    → used + range ≡ values_in new
values_push vs new x used range more e size =
    let all = sum_by-append (λ (y : SasVariable). length y.values) vs (x ∷ []) in
    let one = values-cons x [] in
    let same : values_in new ≡ values_in (vs ++ x ∷ []) = ap values_in more in
    omega (arith, e, size, all, one, same)

pub variables_push : (vs new : List SasVariable) (x : SasVariable) (used range : ℕ)
    → new ≡ vs ++ x ∷ [] → used ≡ values_in vs → length x.values ≡ range
    → (0 < range) × (used + range ≤ 65535) → AreVariables vs → AreVariables new
variables_push vs new x used range more e size within are =
    let all = values_push vs new x used range more e size in
    let some : 0 < length x.values = omega (arith, size, within.0) in
    let HasValue = λ (y : SasVariable). 0 < length y.values in
    record {
      each = subst HaveValues (sym more) (All-push HasValue vs x are.each some);
      few = omega (arith, all, within.1);
    }
