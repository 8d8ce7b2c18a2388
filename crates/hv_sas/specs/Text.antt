-- The text of a translator file, part by part.
use Rattle.std.specs.Prelude.{ℕ, Bool, List, [], ◌∷◌, ◌++◌, codes, length}
use Rattle.hv_grammar.specs.Parsers.{Parser, end_of_input, pure, line, iterate, repeat, ◌>>=◌, ◌>>◌}
use Rattle.hv_grammar.specs.Forms.{number_line, word_line}
use Rattle.hv_sas.specs.declared.fault.SasRefusal.{SasRefusal}
use Rattle.hv_sas.specs.declared.fault.SasKind.{SasKind}
use Rattle.hv_sas.specs.declared.fault.SasKind.TheVariants as K
use Rattle.hv_sas.specs.declared.fault.SasRefusal.TheVariants as R
use Rattle.hv_sas.specs.declared.sas_task.Effect.{Effect}
use Rattle.hv_sas.specs.declared.sas_task.Fact.{Fact}
use Rattle.hv_sas.specs.declared.sas_task.Sas.{Sas}
use Rattle.hv_sas.specs.declared.sas_task.SasOperator.{SasOperator}
use Rattle.hv_sas.specs.declared.sas_task.SasVariable.{SasVariable}
use Rattle.hv_sas.specs.Lines.{axioms_of, fact_of, layer_of, metric_of, name_of, operator_cost}
use Rattle.hv_sas.specs.Lines.{operator_effect, operators_of, start_value, values_of, version_of}
use Rattle.hv_sas.specs.Variables.{values_in}

-- a name
abbrev pub name_line : SasKind → Parser SasRefusal (List ℕ)
name_line kind = line (R.Place kind) name_of

-- a fact of a part of this kind
abbrev pub fact : SasKind → List SasVariable → Parser SasRefusal Fact
fact kind variables = line (R.Place kind) (fact_of kind variables)

-- the version
abbrev pub version : Parser SasRefusal (Unit {0})
version = do
  word_line (codes "begin_version") (R.Place K.Version)
  line (R.Place K.Version) version_of
  word_line (codes "end_version") (R.Place K.Version)

-- whether operators have costs
abbrev pub metric : Parser SasRefusal Bool
metric = do
  word_line (codes "begin_metric") (R.Place K.Metric)
  value ← line (R.Place K.Metric) metric_of
  word_line (codes "end_metric") (R.Place K.Metric)
  pure value

-- one more variable
abbrev pub variable : List SasVariable → Parser SasRefusal (List SasVariable)
variable earlier = do
  word_line (codes "begin_variable") (R.Place K.Variable)
  its_name ← name_line K.Variable
  line (R.Place K.Variable) layer_of
  range ← line (R.Place K.Variable) (values_of (values_in earlier))
  values ← repeat range (name_line K.Variable)
  word_line (codes "end_variable") (R.Place K.Variable)
  pure (earlier ++ record { name = its_name; values = values } ∷ [])

-- the variables
abbrev pub all_variables : Parser SasRefusal (List SasVariable)
all_variables = do
  count ← number_line (R.Place K.Variables)
  iterate count variable []

-- one more fact of a mutex group, which isn't kept
abbrev pub mutex_fact : List SasVariable → Unit {0} → Parser SasRefusal (Unit {0})
mutex_fact variables done = do
  f ← fact K.Mutex variables
  pure done

-- one more mutex group, which isn't kept
abbrev pub mutex : List SasVariable → Unit {0} → Parser SasRefusal (Unit {0})
mutex variables done = do
  word_line (codes "begin_mutex_group") (R.Place K.Mutex)
  count ← number_line (R.Place K.Mutex)
  iterate count (mutex_fact variables) tt
  word_line (codes "end_mutex_group") (R.Place K.Mutex)

-- the mutex groups, which aren't kept
abbrev pub all_mutexes : List SasVariable → Parser SasRefusal (Unit {0})
all_mutexes variables = do
  count ← number_line (R.Place K.Mutexes)
  iterate count (mutex variables) tt

-- one more value: that of the next variable
abbrev pub value : List SasVariable → List ℕ → Parser SasRefusal (List ℕ)
value variables earlier = do
  v ← line (R.Place K.State) (start_value variables (length earlier))
  pure (earlier ++ v ∷ [])

-- the initial state
abbrev pub start : List SasVariable → Parser SasRefusal (List ℕ)
start variables = do
  word_line (codes "begin_state") (R.Place K.State)
  values ← iterate (length variables) (value variables) []
  word_line (codes "end_state") (R.Place K.State)
  pure values

-- the goal
abbrev pub goal : List SasVariable → Parser SasRefusal (List Fact)
goal variables = do
  word_line (codes "begin_goal") (R.Place K.Goal)
  count ← number_line (R.Place K.Goal)
  facts ← repeat count (fact K.Goal variables)
  word_line (codes "end_goal") (R.Place K.Goal)
  pure facts

-- one more effect
abbrev pub effect : List SasVariable → List Effect → Parser SasRefusal (List Effect)
effect variables earlier = do
  e ← line (R.Place K.Operator) (operator_effect variables earlier)
  pure (earlier ++ e ∷ [])

-- one more operator
abbrev pub operator : List SasVariable → List SasOperator → Parser SasRefusal (List SasOperator)
operator variables earlier = do
  word_line (codes "begin_operator") (R.Place K.Operator)
  its_name ← name_line K.Operator
  facts ← number_line (R.Place K.Operator)
  prevail ← repeat facts (fact K.Operator variables)
  count ← number_line (R.Place K.Operator)
  effects ← iterate count (effect variables) []
  cost ← line (R.Place K.Operator) operator_cost
  word_line (codes "end_operator") (R.Place K.Operator)
  pure
      (earlier
      ++ record { name = its_name; prevail = prevail; effects = effects; cost = cost } ∷ [])

-- the operators
abbrev pub all_operators : List SasVariable → Parser SasRefusal (List SasOperator)
all_operators variables = do
  count ← line (R.Place K.Operators) operators_of
  iterate count (operator variables) []

-- a whole file
abbrev pub sas_file : Parser SasRefusal Sas
sas_file = do
  version
  costs ← metric
  variables ← all_variables
  all_mutexes variables
  values ← start variables
  facts ← goal variables
  operators ← all_operators variables
  line (R.Place K.Axioms) axioms_of
  end_of_input (R.Place K.End)
  pure
      (record {
        metric = costs;
        variables = variables;
        start = values;
        goal = facts;
        operators = operators;
      })
