-- Working definitions of the reader: for private contracts and proofs.
use Rattle.std.specs.Prelude.{◌≡◌, ◌≤◌, ◌<◌, ℕ, Bool, List, [], Option, None, Some, Result}
use Rattle.std.specs.Prelude.{Ok, Err, All, EachIndex}
use Rattle.std.specs.Prelude.{cond, length, nat_le, slice_index}
use Rattle.std.specs.Borrow.{Bor}
use Rattle.hv_task.specs.State.{has_atom}
use Rattle.hv_bytes.specs.Fields.{cut_fields}
use Rattle.hv_grammar.specs.declared.fault.ParseFault.{ParseFault}
use Rattle.hv_grammar.specs.declared.fault.ParseFault.TheVariants as P
use Rattle.hv_sas.specs.declared.fault.SasRefusal.{SasRefusal}
use Rattle.hv_sas.specs.declared.fault.SasRefusal.TheVariants as R
use Rattle.hv_sas.specs.declared.fault.SasFault.{SasFault}
use Rattle.hv_sas.specs.declared.fault.SasFault.TheVariants as F
use Rattle.hv_sas.specs.declared.fault.SasLimit.TheVariants as L
use Rattle.hv_sas.specs.Answer.{sas_fault_at}
use Rattle.hv_sas.specs.Lines.{has_effect_on}
use Rattle.hv_sas.specs.declared.sas_task.Effect.{Effect}
use Rattle.hv_sas.specs.declared.sas_task.SasVariable.{SasVariable}
use Rattle.hv_sas.specs.Sound.{HaveDistinctVariables, HaveValues}
use Rattle.hv_sas.specs.Variables.{IsEffectOn, range_at, values_in}

-- each variable has a value, and there are few of them
pub record AreVariables (variables : List SasVariable) : Type 0 where
  pub each : HaveValues variables
  pub few : values_in variables ≤ 65535

-- whether the line is a name
abbrev pub named : List ℕ → Result (Unit {0}) SasRefusal
named l = cond (nat_le (length l) 1024) (Ok tt) (Err (R.Limit L.Name))

-- the fields of what is behind a space, where there is one
abbrev pub fields_after_space : Option (Bor (List ℕ)) → List (List ℕ)
fields_after_space None = []
fields_after_space (Some rest) = cut_fields rest.now

-- each value is one of the variable at its place
abbrev pub AreWithin : List SasVariable → List ℕ → Type 0
AreWithin variables values =
    EachIndex values (λ var. slice_index values var < range_at variables var)

-- the effects are over the variables, and on different ones
pub record AreEffects (variables : List SasVariable) (effects : List Effect) : Type 0 where
  pub each : All (IsEffectOn variables) effects
  pub apart : HaveDistinctVariables effects

-- why a file isn't read, as the caller is told
abbrev pub sas_fault : ParseFault SasRefusal → SasFault
sas_fault (P.Refused line bad) = sas_fault_at line bad
sas_fault (P.Long line) = F.Limit line L.Long
sas_fault P.ReadFault = F.ReadFault
sas_fault P.Memory = F.Memory

-- the marks, one for each variable, tell on which of them there is an effect
pub record AreMarked (variables : List SasVariable) (effects : List Effect) (marks : List Bool)
    : Type 0
  where
    pub count : length marks ≡ length variables
    pub each : (var : ℕ) → var < length marks
        → has_atom marks var ≡ has_effect_on effects var
