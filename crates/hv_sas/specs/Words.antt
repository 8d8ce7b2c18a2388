-- The words that name the parts of a translator file, what isn't supported, and its limits.
use Rattle.std.specs.Prelude.{ℕ, List, codes}
use Rattle.hv_sas.specs.declared.fault.SasKind.{SasKind}
use Rattle.hv_sas.specs.declared.fault.SasKind.TheVariants as K
use Rattle.hv_sas.specs.declared.fault.SasLimit.{SasLimit}
use Rattle.hv_sas.specs.declared.fault.SasLimit.TheVariants as L
use Rattle.hv_sas.specs.declared.fault.SasWhich.{SasWhich}
use Rattle.hv_sas.specs.declared.fault.SasWhich.TheVariants as W

-- the word for the part of a file that is wrong
abbrev pub sas_kind_word : SasKind → List ℕ
sas_kind_word K.Version = codes "version"
sas_kind_word K.Metric = codes "metric"
sas_kind_word K.Variables = codes "variables"
sas_kind_word K.Variable = codes "variable"
sas_kind_word K.Mutexes = codes "mutexes"
sas_kind_word K.Mutex = codes "mutex"
sas_kind_word K.State = codes "state"
sas_kind_word K.Goal = codes "goal"
sas_kind_word K.Operators = codes "operators"
sas_kind_word K.Operator = codes "operator"
sas_kind_word K.Axioms = codes "axioms"
sas_kind_word K.End = codes "end"

-- the word for what a file has and isn't supported
abbrev pub which_word : SasWhich → List ℕ
which_word W.Version = codes "version"
which_word W.Layer = codes "layer"
which_word W.Condition = codes "condition"
which_word W.Twice = codes "twice"
which_word W.Axiom = codes "axiom"

-- the word for the limit that a file is over
abbrev pub sas_limit_word : SasLimit → List ℕ
sas_limit_word L.Values = codes "values"
sas_limit_word L.Operators = codes "operators"
sas_limit_word L.Name = codes "name"
sas_limit_word L.Cost = codes "cost"
sas_limit_word L.Long = codes "long"
