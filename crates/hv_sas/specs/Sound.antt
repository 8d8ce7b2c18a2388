-- What is asked of a task in finite-domain representation.
use Rattle.std.specs.Prelude.{◌≡◌, ◌≢◌, ◌≤◌, ◌<◌, ℕ, List, All, AllPairs, EachIndex, length}
use Rattle.std.specs.Prelude.{slice_index}
use Rattle.hv_sas.specs.declared.sas_task.Effect.{Effect}
use Rattle.hv_sas.specs.declared.sas_task.Sas.{Sas}
use Rattle.hv_sas.specs.declared.sas_task.SasOperator.{SasOperator}
use Rattle.hv_sas.specs.declared.sas_task.SasVariable.{SasVariable}
use Rattle.hv_sas.specs.Variables.{IsEffectOn, IsFact, range_at, values_in}

-- each variable has a value
abbrev pub HaveValues : List SasVariable → Type 0
HaveValues variables = All (λ (variable : SasVariable). 0 < length variable.values) variables

-- a state of these variables: one value for each
pub record IsAssignment (variables : List SasVariable) (state : List ℕ) : Type 0 where
  pub count : length state ≡ length variables
  pub within : EachIndex state (λ var. slice_index state var < range_at variables var)

-- the effects are on different variables
abbrev pub HaveDistinctVariables : List Effect → Type 0
HaveDistinctVariables effects = AllPairs (λ (one other : Effect). one.var ≢ other.var) effects

-- the operator names variables and values of them, and has no two effects on one variable
pub record IsOperator (variables : List SasVariable) (operator : SasOperator) : Type 0 where
  pub prevail : All (IsFact variables) operator.prevail
  pub effects : All (IsEffectOn variables) operator.effects
  pub apart : HaveDistinctVariables operator.effects

-- each number of a variable or of a value is in range, each variable has a value, the initial state
-- has one value for each variable, no operator has two effects on one variable, and the task is
-- within the limits
pub record IsSoundSas (sas : Sas) : Type 0 where
  pub variables : HaveValues sas.variables
  pub few_values : values_in sas.variables ≤ 65535
  pub start : IsAssignment sas.variables sas.start
  pub goal : All (IsFact sas.variables) sas.goal
  pub operators : All (IsOperator sas.variables) sas.operators
  pub few_operators : length sas.operators ≤ 1000000
