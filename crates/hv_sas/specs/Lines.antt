-- The lines of a translator file.
use Rattle.std.specs.Prelude.{◌&&◌, ℕ, ◌+◌, Bool, true, false, List, [], ◌∷◌, Option}
use Rattle.std.specs.Prelude.{None, Some, Result, Ok, Err, codes, cond, length, nat_le, nat_lt}
use Rattle.std.specs.Prelude.{nat_eq}
use Rattle.std.specs.Prelude.{option_map}
use Rattle.std.specs.List.{list_any}
use Rattle.std.specs.Str.{bytes_eq}
use Rattle.hv_bytes.specs.Fields.{cut_fields}
use Rattle.hv_grammar.specs.Forms.{at_most, decimal_of}
use Rattle.hv_sas.specs.declared.fault.SasRefusal.{SasRefusal}
use Rattle.hv_sas.specs.declared.fault.SasRefusal.TheVariants as R
use Rattle.hv_sas.specs.declared.fault.SasKind.{SasKind}
use Rattle.hv_sas.specs.declared.fault.SasKind.TheVariants as K
use Rattle.hv_sas.specs.declared.fault.SasLimit.TheVariants as L
use Rattle.hv_sas.specs.declared.fault.SasWhich.TheVariants as W
use Rattle.hv_sas.specs.declared.sas_task.Effect.{Effect}
use Rattle.hv_sas.specs.declared.sas_task.Fact.{Fact}
use Rattle.hv_sas.specs.declared.sas_task.SasVariable.{SasVariable}
use Rattle.hv_sas.specs.Variables.{range_at}

-- the decimal, where it is one and is this number; another decimal isn't supported
abbrev pub only : ℕ → SasRefusal → SasRefusal → Option ℕ → Result (Unit {0}) SasRefusal
only wanted bad other None = Err bad
only wanted bad other (Some n) = cond (nat_eq n wanted) (Ok tt) (Err other)

-- `3`
abbrev pub version_of : List ℕ → Result (Unit {0}) SasRefusal
version_of l = only 3 (R.Place K.Version) (R.Unsupported W.Version) (decimal_of l)

-- `0`, the number of axioms
abbrev pub axioms_of : List ℕ → Result (Unit {0}) SasRefusal
axioms_of l = only 0 (R.Place K.Axioms) (R.Unsupported W.Axiom) (decimal_of l)

-- `0` or `1`
abbrev pub metric_of : List ℕ → Result Bool SasRefusal
metric_of l =
    cond (bytes_eq l (codes "0")) (Ok false)
    (cond (bytes_eq l (codes "1")) (Ok true) (Err (R.Place K.Metric)))

-- any bytes, up to 1,024
abbrev pub name_of : List ℕ → Result (List ℕ) SasRefusal
name_of l = cond (nat_le (length l) 1024) (Ok l) (Err (R.Limit L.Name))

-- a layer other than `-1`: a decimal isn't supported
abbrev pub layer_in : Option ℕ → Result (Unit {0}) SasRefusal
layer_in None = Err (R.Place K.Variable)
layer_in (Some n) = Err (R.Unsupported W.Layer)

-- `-1`
abbrev pub layer_of : List ℕ → Result (Unit {0}) SasRefusal
layer_of l = cond (bytes_eq l (codes "-1")) (Ok tt) (layer_in (decimal_of l))

-- a number of values, if one was read: at least 1, and with those of the earlier variables up to
-- 65,535
abbrev pub values_within : ℕ → Option ℕ → Result ℕ SasRefusal
values_within earlier None = Err (R.Place K.Variable)
values_within earlier (Some n) =
    cond (nat_eq n 0) (Err (R.Place K.Variable))
    (cond (nat_le (earlier + n) 65535) (Ok n) (Err (R.Limit L.Values)))

-- a line that says how many values a variable has, after so many of the earlier ones
abbrev pub values_of : ℕ → List ℕ → Result ℕ SasRefusal
values_of earlier l = values_within earlier (decimal_of l)

-- a number of operators
abbrev pub operators_of : List ℕ → Result ℕ SasRefusal
operators_of l = at_most 1000000 (R.Place K.Operators) (R.Limit L.Operators) (decimal_of l)

-- a cost
abbrev pub operator_cost : List ℕ → Result ℕ SasRefusal
operator_cost l = at_most 4294967295 (R.Place K.Operator) (R.Limit L.Cost) (decimal_of l)

-- a value of the variable of this number
abbrev pub value_in : ℕ → Option ℕ → Result ℕ SasRefusal
value_in range None = Err (R.Place K.State)
value_in range (Some n) = cond (nat_lt n range) (Ok n) (Err (R.Place K.State))

-- the value of the initial state on a line, for the variable v
abbrev pub start_value : List SasVariable → ℕ → List ℕ → Result ℕ SasRefusal
start_value variables v l = value_in (range_at variables v) (decimal_of l)

-- two decimals
abbrev pub pair_of : Option ℕ → Option ℕ → Option (ℕ × ℕ)
pair_of None b = None
pair_of (Some a) None = None
pair_of (Some a) (Some b) = Some (a, b)

-- the two decimals that just two fields have
abbrev pub two_of : List (List ℕ) → Option (ℕ × ℕ)
two_of [] = None
two_of (a ∷ []) = None
two_of (a ∷ b ∷ []) = pair_of (decimal_of a) (decimal_of b)
two_of (a ∷ b ∷ c ∷ fields) = None

-- the fact of a variable and a value, if both were read and are in range
abbrev pub fact_in : SasKind → List SasVariable → Option (ℕ × ℕ) → Result Fact SasRefusal
fact_in kind variables None = Err (R.Place kind)
fact_in kind variables (Some p) =
    cond (nat_lt p.1 (range_at variables p.0)) (Ok (record { var = p.0; value = p.1 }))
    (Err (R.Place kind))

-- `VAR VALUE`, both in range
abbrev pub fact_of : SasKind → List SasVariable → List ℕ → Result Fact SasRefusal
fact_of kind variables l = fact_in kind variables (two_of (cut_fields l))

-- `-1`, or a value
abbrev pub before_of : List ℕ → Option (Option ℕ)
before_of field =
    cond (bytes_eq field (codes "-1")) (Some None) (option_map (λ n. Some n) (decimal_of field))

-- whether a value is in a range, as it always is where none is asked for
abbrev pub is_below : Option ℕ → ℕ → Bool
is_below None range = true
is_below (Some n) range = nat_lt n range

-- the effect on a variable from a value to a value, where all three are read and in range
abbrev pub effect_from : List SasVariable → Option ℕ → Option (Option ℕ) → Option ℕ → Option Effect
effect_from variables None before after = None
effect_from variables (Some v) None after = None
effect_from variables (Some v) (Some before) None = None
effect_from variables (Some v) (Some before) (Some after) =
    cond (is_below before (range_at variables v) && nat_lt after (range_at variables v))
    (Some (record { var = v; before = before; after = after })) None

-- `VAR BEFORE AFTER`, all in range
abbrev pub effect_in : List SasVariable → List (List ℕ) → Option Effect
effect_in variables [] = None
effect_in variables (v ∷ []) = None
effect_in variables (v ∷ b ∷ []) = None
effect_in variables (v ∷ b ∷ a ∷ []) =
    effect_from variables (decimal_of v) (before_of b) (decimal_of a)
effect_in variables (v ∷ b ∷ a ∷ c ∷ fields) = None

-- whether one of the effects is on the variable
abbrev pub has_effect_on : List Effect → ℕ → Bool
has_effect_on effects v = list_any (λ (x : Effect). nat_eq x.var v) effects

-- an effect on a variable that has none yet
abbrev pub unless_twice : List Effect → Option Effect → Result Effect SasRefusal
unless_twice earlier None = Err (R.Place K.Operator)
unless_twice earlier (Some e) =
    cond (has_effect_on earlier e.var) (Err (R.Unsupported W.Twice)) (Ok e)

-- an effect without conditions
abbrev pub unconditional : List Effect → Option Effect → Option ℕ → Result Effect SasRefusal
unconditional earlier effect None = Err (R.Place K.Operator)
unconditional earlier effect (Some n) =
    cond (nat_eq n 0) (unless_twice earlier effect) (Err (R.Unsupported W.Condition))

-- the effect of a line with these fields: the number of its conditions, and what it does
abbrev pub effect_fields : List SasVariable → List Effect → List (List ℕ) → Result Effect SasRefusal
effect_fields variables earlier [] = Err (R.Place K.Operator)
effect_fields variables earlier (c ∷ fields) =
    unconditional earlier (effect_in variables fields) (decimal_of c)

-- `0 VAR BEFORE AFTER`
abbrev pub operator_effect : List SasVariable → List Effect → List ℕ → Result Effect SasRefusal
operator_effect variables earlier l = effect_fields variables earlier (cut_fields l)
