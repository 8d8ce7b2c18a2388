-- What the lines of a translator file say.
use Rattle.std.proofs.Common.{◌≡◌, ℕ, ◌+◌, ◌<◌, ◌≤◌, ◌&&◌, Bool, true, false, cond, List, []}
use Rattle.std.proofs.Common.{◌∷◌, Option, None, Some, IfSome, Ok, Err, arith, eqb, length, refl}
use Rattle.std.specs.Prelude.{IfOk, Result, nat_eq, nat_le, nat_lt}
use Rattle.std.proofs.lemmas.Bool.{eqb-false, leb-true, ltb-true}
use Rattle.hv_bytes.specs.Fields.{cut_fields}
use Rattle.hv_bytes.specs.LineCuts.{IsClean}
use Rattle.hv_grammar.specs.Forms.{at_most, decimal_of}
use Rattle.hv_sas.specs.declared.fault.SasKind.{SasKind}
use Rattle.hv_sas.specs.declared.sas_task.Effect.{Effect}
use Rattle.hv_sas.specs.declared.sas_task.SasVariable.{SasVariable}
use Rattle.hv_sas.specs.Lines.{before_of, effect_fields, effect_from, effect_in, fact_in, fact_of}
use Rattle.hv_sas.specs.Lines.{has_effect_on, is_below, name_of, operator_cost, operator_effect}
use Rattle.hv_sas.specs.Lines.{operators_of, start_value, two_of, unconditional, unless_twice}
use Rattle.hv_sas.specs.Lines.{value_in, values_of, values_within}
use Rattle.hv_sas.specs.Variables.{IsEffectOn, IsFact, range_at}
use Rattle.hv_sas.proofs.Members.{first_true, second_true}
use Rattle.hv_task_text.specs.Canonical.{IsWritableName}

-- a value that passes a test
if_passes : {A B : Type 0} (P : A → Type 0) (test : Bool) (a : A) (bad : B) → (test ≡ true → P a)
    → IfOk (cond test (Ok a) (Err bad)) P
if_passes P true a bad is = is refl
if_passes P false a bad is = tt

-- a value that fails a test
if_fails : {A B : Type 0} (P : A → Type 0) (test : Bool) (r : Result A B) (bad : B)
    → (test ≡ false → IfOk r P) → IfOk (cond test (Err bad) r) P
if_fails P true r bad is = tt
if_fails P false r bad is = is refl

-- what a test lets through
if_tested : {A B : Type 0} (P : A → Type 0) (test : Bool) (r : Result A B) (bad : B) → IfOk r P
    → IfOk (cond test r (Err bad)) P
if_tested P true r bad is = is
if_tested P false r bad is = tt

pub name_says : (l : List ℕ) → IsClean l → IfOk (name_of l) IsWritableName
name_says l clean =
    if_passes IsWritableName (nat_le (length l) 1024) l _
    (λ e. record { clean = clean; short = leb-true (length l) 1024 e })

-- so many values, where the earlier variables have so many
abbrev pub IsRange : ℕ → ℕ → Type 0
IsRange earlier n = (0 < n) × (earlier + n ≤ 65535)

within_says : (earlier : ℕ) (o : Option ℕ) → IfOk (values_within earlier o) (IsRange earlier)
within_says earlier None = tt
within_says earlier (Some n) =
    if_fails (IsRange earlier) (nat_eq n 0) _ _
    (λ e. if_passes (IsRange earlier) (nat_le (earlier + n) 65535) n _
    (λ few. (some n e, leb-true (earlier + n) 65535 few)))
  where
    some : (n : ℕ) → eqb n 0 ≡ false → 0 < n
    some n e = let ne = eqb-false n 0 e in omega (arith, ne)

pub values_say : (earlier : ℕ) (l : List ℕ) → IfOk (values_of earlier l) (IsRange earlier)
values_say earlier l = within_says earlier (decimal_of l)

most_says : {B : Type 0} (most : ℕ) (bad many : B) (o : Option ℕ)
    → IfOk (at_most most bad many o) (λ n. n ≤ most)
most_says most bad many None = tt
most_says most bad many (Some n) =
    if_passes (λ m. m ≤ most) (nat_le n most) n many (λ e. leb-true n most e)

pub operators_say : (l : List ℕ) → IfOk (operators_of l) (λ n. n ≤ 1000000)
operators_say l = most_says 1000000 _ _ (decimal_of l)

pub cost_says : (l : List ℕ) → IfOk (operator_cost l) (λ n. n ≤ 4294967295)
cost_says l = most_says 4294967295 _ _ (decimal_of l)

value_says : (range : ℕ) (o : Option ℕ) → IfOk (value_in range o) (λ n. n < range)
value_says range None = tt
value_says range (Some n) =
    if_passes (λ m. m < range) (nat_lt n range) n _ (λ e. ltb-true n range e)

pub start_says : (vs : List SasVariable) (var : ℕ) (l : List ℕ)
    → IfOk (start_value vs var l) (λ n. n < range_at vs var)
start_says vs var l = value_says (range_at vs var) (decimal_of l)

fact_in_says : (kind : SasKind) (vs : List SasVariable) (o : Option (ℕ × ℕ))
    → IfOk (fact_in kind vs o) (IsFact vs)
fact_in_says kind vs None = tt
fact_in_says kind vs (Some p) =
    if_passes (IsFact vs) (nat_lt p.1 (range_at vs p.0)) (record { var = p.0; value = p.1 }) _
    (λ e. ltb-true p.1 (range_at vs p.0) e)

pub fact_says : (kind : SasKind) (vs : List SasVariable) (l : List ℕ)
    → IfOk (fact_of kind vs l) (IsFact vs)
fact_says kind vs l = fact_in_says kind vs (two_of (cut_fields l))

below_says : (before : Option ℕ) (range : ℕ) → is_below before range ≡ true
    → IfSome before (λ n. n < range)
below_says None range e = tt
below_says (Some n) range e = ltb-true n range e

some_passes : {A : Type 0} (P : A → Type 0) (test : Bool) (a : A) → (test ≡ true → P a)
    → IfSome (cond test (Some a) None) P
some_passes P true a is = is refl
some_passes P false a is = tt

from_says : (vs : List SasVariable) (var : Option ℕ) (before : Option (Option ℕ))
    (later : Option ℕ) → IfSome (effect_from vs var before later) (IsEffectOn vs)
from_says vs None before later = tt
from_says vs (Some v) None later = tt
from_says vs (Some v) (Some before) None = tt
from_says vs (Some v) (Some before) (Some later) =
    let low = is_below before (range_at vs v) in
    let high = nat_lt later (range_at vs v) in
    some_passes (IsEffectOn vs) (low && high)
    (record { var = v; before = before; after = later })
    (λ e. record {
      before = below_says before (range_at vs v) (first_true low high e);
      after = ltb-true later (range_at vs v) (second_true low high e);
    })

effect_says : (vs : List SasVariable) (fields : List (List ℕ))
    → IfSome (effect_in vs fields) (IsEffectOn vs)
effect_says vs [] = tt
effect_says vs (v ∷ []) = tt
effect_says vs (v ∷ b ∷ []) = tt
effect_says vs (v ∷ b ∷ a ∷ []) = from_says vs (decimal_of v) (before_of b) (decimal_of a)
effect_says vs (v ∷ b ∷ a ∷ c ∷ fields) = tt

-- an effect on a variable that none of the earlier ones is on
abbrev pub IsNewEffect : List SasVariable → List Effect → Effect → Type 0
IsNewEffect vs earlier effect = IsEffectOn vs effect × (has_effect_on earlier effect.var ≡ false)

twice_says : (vs : List SasVariable) (earlier : List Effect) (o : Option Effect)
    → IfSome o (IsEffectOn vs) → IfOk (unless_twice earlier o) (IsNewEffect vs earlier)
twice_says vs earlier None is = tt
twice_says vs earlier (Some e) is =
    if_fails (IsNewEffect vs earlier) (has_effect_on earlier e.var) _ _ (λ first. (is, first))

unconditional_says : (vs : List SasVariable) (earlier : List Effect) (o : Option Effect)
    (conditions : Option ℕ) → IfSome o (IsEffectOn vs)
    → IfOk (unconditional earlier o conditions) (IsNewEffect vs earlier)
unconditional_says vs earlier o None is = tt
unconditional_says vs earlier o (Some n) is =
    if_tested (IsNewEffect vs earlier) (nat_eq n 0) (unless_twice earlier o) _
    (twice_says vs earlier o is)

fields_say : (vs : List SasVariable) (earlier : List Effect) (fields : List (List ℕ))
    → IfOk (effect_fields vs earlier fields) (IsNewEffect vs earlier)
fields_say vs earlier [] = tt
fields_say vs earlier (c ∷ fields) =
    unconditional_says vs earlier (effect_in vs fields) (decimal_of c) (effect_says vs fields)

pub operator_effect_says : (vs : List SasVariable) (earlier : List Effect) (l : List ℕ)
    → IfOk (operator_effect vs earlier l) (IsNewEffect vs earlier)
operator_effect_says vs earlier l = fields_say vs earlier (cut_fields l)
