-- Variables, values and facts of a finite-domain task.
use Rattle.std.specs.Prelude.{◌<◌, ℕ, List, Option, None, Some, IfSome, length, slice_get, sum_by}
use Rattle.hv_sas.specs.declared.sas_task.Effect.{Effect}
use Rattle.hv_sas.specs.declared.sas_task.Fact.{Fact}
use Rattle.hv_sas.specs.declared.sas_task.SasVariable.{SasVariable}

-- how many values the variable has: none where there is no such variable
abbrev pub range_of : Option SasVariable → ℕ
range_of None = 0
range_of (Some variable) = length variable.values

-- how many values the variable of this number has
abbrev pub range_at : List SasVariable → ℕ → ℕ
range_at variables var = range_of (slice_get variables var)

-- how many values the variables have together
abbrev pub values_in : List SasVariable → ℕ
values_in variables = sum_by (λ (variable : SasVariable). length variable.values) variables

-- the fact names a variable and one of its values
abbrev pub IsFact : List SasVariable → Fact → Type 0
IsFact variables fact = fact.value < range_at variables fact.var

-- the effect names a variable and values of it
pub record IsEffectOn (variables : List SasVariable) (effect : Effect) : Type 0 where
  pub before : IfSome effect.before (λ value. value < range_at variables effect.var)
  pub after : effect.after < range_at variables effect.var
