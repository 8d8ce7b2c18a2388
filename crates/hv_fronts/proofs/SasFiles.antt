-- What the parts of a translator file make: a sound task, whose names can be written.
use Rattle.std.proofs.Common.{◌≡◌, ◌≢◌, ℕ, ◌+◌, ◌<◌, ◌≤◌, All, false, List, [], ◌∷◌, ◌++◌}
use Rattle.std.proofs.Common.{◌∙◌, Ok, ap, arith, eqb, get_or, inl, inr, length, refl}
use Rattle.std.proofs.Common.{subst, sym}
use Rattle.std.proofs.lemmas.Bool.{cases_lt, eq-eqb}
use Rattle.std.proofs.lemmas.List.{get_or_append_left, get_or_default, get_or_push, length_push}
use Rattle.std.proofs.lemmas.List.Elements.{All-nil, All-push, All-weaker}
use Rattle.std.proofs.lemmas.List.Quantifiers.{all_pairs_push}
use Rattle.std.proofs.lemmas.List.Sums.{sum_by_push}
use Rattle.hv_bytes.specs.Pieces.{pieces_of}
use Rattle.hv_bytes.specs.declared.cutting.Limits.{Limits}
use Rattle.hv_grammar.specs.Parsers.{Outcome, long, parsed, refused}
use Rattle.hv_sas.specs.Answer.{answer_of}
use Rattle.hv_sas.specs.Lines.{has_effect_on}
use Rattle.hv_sas.specs.Sound.{HaveValues, IsAssignment, IsOperator, IsSoundSas}
use Rattle.hv_sas.specs.Text.{all_mutexes, all_operators, all_variables, effect, fact, goal, metric}
use Rattle.hv_sas.specs.Text.{mutex, mutex_fact, name_line, operator, sas_file, start, value}
use Rattle.hv_sas.specs.Text.{variable, version}
use Rattle.hv_sas.specs.Variables.{IsEffectOn, IsFact, range_at, values_in}
use Rattle.hv_sas.specs.Working.Reading.{AreEffects, AreWithin}
use Rattle.hv_sas.specs.declared.fault.SasKind.{SasKind}
use Rattle.hv_sas.specs.declared.fault.SasKind.TheVariants as K
use Rattle.hv_sas.specs.declared.fault.SasRefusal.{SasRefusal}
use Rattle.hv_sas.specs.declared.sas_task.Effect.{Effect}
use Rattle.hv_sas.specs.declared.sas_task.Sas.{Sas}
use Rattle.hv_sas.specs.declared.sas_task.SasOperator.{SasOperator}
use Rattle.hv_sas.specs.declared.sas_task.SasVariable.{SasVariable}
use Rattle.hv_sas.proofs.Members.{any_has, contains_has}
use Rattle.hv_task_text.specs.Canonical.{IsWritableName}
use Rattle.hv_fronts.proofs.Parts.{AreMany, Gives, IsAny, Makes, clean_file, makes_any, makes_end}
use Rattle.hv_fronts.proofs.Parts.{makes_line, makes_pure, makes_repeat, makes_same, makes_skip}
use Rattle.hv_fronts.proofs.Parts.{makes_then, makes_times, makes_weaker}
use Rattle.hv_fronts.proofs.SasLines.{IsNewEffect, IsRange, cost_says, fact_says, name_says}
use Rattle.hv_fronts.proofs.SasLines.{operator_effect_says, operators_say, start_says, values_say}

-- the names of the variable's values can be written
abbrev pub IsNamed : SasVariable → Type 0
IsNamed variable = All IsWritableName variable.values

-- variables that are read
pub record AreRead (vs : List SasVariable) : Type 0 where
  pub each : HaveValues vs
  pub few : values_in vs ≤ 65535
  pub names : All IsNamed vs

-- an operator that is read
pub record IsReadOperator (vs : List SasVariable) (operator : SasOperator) : Type 0 where
  pub is : IsOperator vs operator
  pub name : IsWritableName operator.name
  pub cost : operator.cost ≤ 4294967295

-- a task that is read
pub record IsReadSas (sas : Sas) : Type 0 where
  pub sound : IsSoundSas sas
  pub names : All IsNamed sas.variables
  pub operators : All (IsReadOperator sas.variables) sas.operators

makes_name : (kind : SasKind) → Makes IsWritableName (name_line kind)
makes_name kind = makes_line IsWritableName _ _ name_says

makes_fact : (kind : SasKind) (vs : List SasVariable) → Makes (IsFact vs) (fact kind vs)
makes_fact kind vs = makes_line (IsFact vs) _ _ (λ l clean. fact_says kind vs l)

makes_version : Makes IsAny version
makes_version = makes_skip (makes_any _ _) (makes_skip (makes_any _ _) (makes_any _ _))

makes_metric : Makes IsAny metric
makes_metric =
    makes_skip (makes_any _ _) (makes_then IsAny (makes_any _ _)
    (λ costs any. makes_skip (makes_any _ _) (makes_pure IsAny costs tt)))

-- one more variable
read_more : (earlier : List SasVariable) (name : List ℕ) (values : List (List ℕ)) (range : ℕ)
    → AreRead earlier → IsRange (values_in earlier) range → AreMany IsWritableName range values
    → AreRead (earlier ++ record { name = name; values = values } ∷ [])
read_more earlier name values range are within many =
    let x : SasVariable = record { name = name; values = values } in
    let some = within.0 in
    let upto = within.1 in
    let size = many.1 in
    let sum = sum_by_push (λ (variable : SasVariable). length variable.values) earlier x in
    record {
      each = All-push (λ (variable : SasVariable). 0 < length variable.values) earlier x are.each
          (omega arith);
      few = omega arith;
      names = All-push IsNamed earlier x are.names many.0;
    }

makes_variable : (earlier : List SasVariable) → AreRead earlier → Makes AreRead (variable earlier)
makes_variable earlier are =
    makes_skip (makes_any _ _) (makes_then IsWritableName (makes_name K.Variable)
    (λ name writable. makes_skip (makes_any _ _)
    (makes_then (IsRange (values_in earlier))
    (makes_line (IsRange (values_in earlier)) _ _ (λ l clean. values_say (values_in earlier) l))
    (λ range within. makes_then (AreMany IsWritableName range)
    (makes_repeat IsWritableName (name_line K.Variable) range (makes_name K.Variable))
    (λ values many. makes_skip (makes_any _ _)
    (makes_pure AreRead _
    (read_more earlier name values range are within many)))))))

makes_variables : Makes AreRead all_variables
makes_variables =
    makes_then IsAny (makes_any _ _)
    (λ count any. makes_same AreRead variable count [] (record {
      each = All-nil (λ (variable : SasVariable). 0 < length variable.values);
      few = omega arith;
      names = All-nil IsNamed;
    }) makes_variable)

makes_mutex_fact : (vs : List SasVariable) (done : Unit {0}) → Makes IsAny (mutex_fact vs done)
makes_mutex_fact vs done =
    makes_then (IsFact vs) (makes_fact K.Mutex vs) (λ f is. makes_pure IsAny done tt)

makes_mutex : (vs : List SasVariable) (done : Unit {0}) → Makes IsAny (mutex vs done)
makes_mutex vs done =
    makes_skip (makes_any _ _) (makes_then IsAny (makes_any _ _)
    (λ count any. makes_skip
    (makes_same IsAny (mutex_fact vs) count tt tt (λ b h. makes_mutex_fact vs b)) (makes_any _ _)))

makes_mutexes : (vs : List SasVariable) → Makes IsAny (all_mutexes vs)
makes_mutexes vs =
    makes_then IsAny (makes_any _ _)
    (λ count any. makes_same IsAny (mutex vs) count tt tt (λ b h. makes_mutex vs b))

-- so many values, each of its variable
abbrev AreValues : List SasVariable → ℕ → List ℕ → Type 0
AreValues vs count values = (length values ≡ count) × AreWithin vs values

values_more : (vs : List SasVariable) (count : ℕ) (values : List ℕ) (v : ℕ)
    → AreValues vs count values → v < range_at vs (length values)
    → AreValues vs (count + 1) (values ++ v ∷ [])
values_more vs count values v are less = (
  length_push values v ∙ ap (λ n. n + 1) are.0,
  λ i within. elim (cases_lt i (length values)) [
    | inl early ↦
        subst (λ n. n < range_at vs i) (sym (get_or_append_left values (v ∷ []) 0 i early))
        (are.1 i early)
    | inr late ↦
        let size = length_push values v in
        let last : length values ≡ i = omega arith in
        subst (λ n. n < range_at vs i) (sym (get_or_push values v 0 i last))
        (subst (λ n. v < range_at vs n) last less)
  ],
)

makes_value : (vs : List SasVariable) (count : ℕ) (values : List ℕ) → AreValues vs count values
    → Makes (AreValues vs (count + 1)) (value vs values)
makes_value vs count values are =
    makes_then (λ v. v < range_at vs (length values))
    (makes_line (λ v. v < range_at vs (length values)) _ _
    (λ l clean. start_says vs (length values) l))
    (λ v less. makes_pure (AreValues vs (count + 1)) (values ++ v ∷ [])
    (values_more vs count values v are less))

makes_start : (vs : List SasVariable) → Makes (IsAssignment vs) (start vs)
makes_start vs =
    makes_skip (makes_any _ _) (makes_then (AreValues vs (0 + length vs))
    (makes_times (AreValues vs) (value vs) (length vs) 0 []
    (refl, λ i within. absurd (omega arith)) (makes_value vs))
    (λ values are. makes_skip (makes_any _ _)
    (makes_pure (IsAssignment vs) values
    (record { count = (let e = are.0 in omega arith); within = are.1 }))))

makes_goal : (vs : List SasVariable) → Makes (All (IsFact vs)) (goal vs)
makes_goal vs =
    makes_skip (makes_any _ _) (makes_then IsAny (makes_any _ _)
    (λ count any. makes_then (AreMany (IsFact vs) count)
    (makes_repeat (IsFact vs) (fact K.Goal vs) count (makes_fact K.Goal vs))
    (λ facts are. makes_skip (makes_any _ _) (makes_pure (All (IsFact vs)) facts are.0))))

-- no earlier effect is on the variable
other_variable : (effects : List Effect) (e : Effect) → has_effect_on effects e.var ≡ false
    → (k : ℕ) (d : Effect) → k < length effects → (get_or effects k d).var ≢ e.var
other_variable effects e none k d within = λ same.
    let x = get_or effects k d in
    let some = any_has (λ (y : Effect). eqb y.var e.var) effects x
    (contains_has x effects (k, within, get_or_default effects k x d within))
    (eq-eqb x.var e.var same) in
    absurd cc

effects_more : (vs : List SasVariable) (effects : List Effect) (e : Effect) → AreEffects vs effects
    → IsNewEffect vs effects e → AreEffects vs (effects ++ e ∷ [])
effects_more vs effects e are new = record {
  each = All-push (IsEffectOn vs) effects e are.each new.0;
  apart = all_pairs_push (λ (one other : Effect). one.var ≢ other.var) effects e are.apart
      (other_variable effects e new.1);
}

makes_effect : (vs : List SasVariable) (effects : List Effect) → AreEffects vs effects
    → Makes (AreEffects vs) (effect vs effects)
makes_effect vs effects are =
    makes_then (IsNewEffect vs effects)
    (makes_line (IsNewEffect vs effects) _ _ (λ l clean. operator_effect_says vs effects l))
    (λ e new. makes_pure (AreEffects vs) (effects ++ e ∷ []) (effects_more vs effects e are new))

-- one more operator
operators_more : (vs : List SasVariable) (count : ℕ) (operators : List SasOperator)
    (operator : SasOperator) → AreMany (IsReadOperator vs) count operators
    → IsReadOperator vs operator
    → AreMany (IsReadOperator vs) (count + 1) (operators ++ operator ∷ [])
operators_more vs count operators operator are read = (
  All-push (IsReadOperator vs) operators operator are.0 read,
  length_push operators operator ∙ ap (λ n. n + 1) are.1,
)

makes_operator : (vs : List SasVariable) (count : ℕ) (operators : List SasOperator)
    → AreMany (IsReadOperator vs) count operators
    → Makes (AreMany (IsReadOperator vs) (count + 1)) (operator vs operators)
makes_operator vs count operators are =
    makes_skip (makes_any _ _) (makes_then IsWritableName (makes_name K.Operator)
    (λ name writable. makes_then IsAny (makes_any _ _)
    (λ facts any. makes_then (AreMany (IsFact vs) facts)
    (makes_repeat (IsFact vs) (fact K.Operator vs) facts (makes_fact K.Operator vs))
    (λ prevail holds. makes_then IsAny (makes_any _ _)
    (λ n also. makes_then (AreEffects vs)
    (makes_same (AreEffects vs) (effect vs) n [] (record {
      each = All-nil (IsEffectOn vs);
      apart = λ i j d less within. absurd (omega arith);
    }) (makes_effect vs))
    (λ effects apart. makes_then (λ c. c ≤ 4294967295)
    (makes_line (λ c. c ≤ 4294967295) _ _ (λ l clean. cost_says l))
    (λ cost small. makes_skip (makes_any _ _)
    (makes_pure (AreMany (IsReadOperator vs) (count + 1)) _
    (operators_more vs count operators
    (record { name = name; prevail = prevail; effects = effects; cost = cost }) are
    (record {
      is = record { prevail = holds.0; effects = apart.each; apart = apart.apart };
      name = writable;
      cost = small;
    }))))))))))

-- operators that are read, and not too many
pub record AreReadOperators (vs : List SasVariable) (operators : List SasOperator) : Type 0 where
  pub each : All (IsReadOperator vs) operators
  pub few : length operators ≤ 1000000

makes_operators : (vs : List SasVariable) → Makes (AreReadOperators vs) (all_operators vs)
makes_operators vs =
    makes_then (λ n. n ≤ 1000000) (makes_line (λ n. n ≤ 1000000) _ _ (λ l clean. operators_say l))
    (λ count few. makes_weaker (AreMany (IsReadOperator vs) (0 + count)) (AreReadOperators vs)
    _ (λ operators are. record { each = are.0; few = (let e = are.1 in omega arith) })
    (makes_times (AreMany (IsReadOperator vs)) (operator vs) count 0 []
    (All-nil (IsReadOperator vs), refl) (makes_operator vs)))

read_sas : (sas : Sas) → AreRead sas.variables → IsAssignment sas.variables sas.start
    → All (IsFact sas.variables) sas.goal → AreReadOperators sas.variables sas.operators
    → IsReadSas sas
read_sas sas are start goal operators = record {
  sound = record {
    variables = are.each;
    few_values = are.few;
    start = start;
    goal = goal;
    operators = All-weaker (IsReadOperator sas.variables) (IsOperator sas.variables)
        (λ operator read. read.is) sas.operators operators.each;
    few_operators = operators.few;
  };
  names = are.names;
  operators = operators.each;
}

makes_sas : Makes IsReadSas sas_file
makes_sas =
    makes_skip makes_version (makes_then IsAny makes_metric
    (λ costs any. makes_then AreRead makes_variables
    (λ vs are. makes_skip (makes_mutexes vs) (makes_then (IsAssignment vs) (makes_start vs)
    (λ values state. makes_then (All (IsFact vs)) (makes_goal vs)
    (λ facts holds. makes_then (AreReadOperators vs) (makes_operators vs)
    (λ operators also. makes_skip (makes_any _ _) (makes_skip (makes_end _)
    (makes_pure IsReadSas _
    (read_sas (record {
      metric = costs;
      variables = vs;
      start = values;
      goal = facts;
      operators = operators;
    }) are state holds also))))))))))

answered : (P : Sas → Type 0) (o : Outcome SasRefusal Sas) (sas : Sas) → Gives P o
    → answer_of o ≡ Ok sas → P sas
answered P (parsed made n ps) sas h e = subst P (let same : made ≡ sas = cc in same) h.0
answered P (refused n bad) sas h e = absurd cc
answered P (long n) sas h e = absurd cc

-- the task of a translator file is sound, and its names can be written
pub is_read : (limits : Limits) (bytes : List ℕ) (sas : Sas)
    → answer_of (sas_file 0 (pieces_of limits bytes)) ≡ Ok sas → IsReadSas sas
is_read limits bytes sas e =
    answered IsReadSas (sas_file 0 (pieces_of limits bytes)) sas
    (makes_sas.gives 0 (pieces_of limits bytes) (clean_file limits bytes)) e
