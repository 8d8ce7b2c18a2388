-- The tests of a task together.
use Rattle.std.proofs.Common.{◌≡◌, ◌≤◌, ◌&&◌, Bool, List, ℕ, length, subst, leb}
use Rattle.std.specs.Prelude.{◌↔◌, IsTrue}
use Rattle.std.specs.List.{All}
use Rattle.std.proofs.lemmas.Bool.{le-leb, leb-true}
use Rattle.hv_sas.specs.declared.sas_task.Fact.{Fact}
use Rattle.hv_sas.specs.declared.sas_task.Sas.{Sas}
use Rattle.hv_sas.specs.declared.sas_task.SasOperator.{SasOperator}
use Rattle.hv_sas.specs.declared.sas_task.SasVariable.{SasVariable}
use Rattle.hv_sas.specs.Variables.{IsFact, values_in}
use Rattle.hv_sas.specs.Sound.{HaveValues, IsOperator, IsSoundSas, IsAssignment}
use Rattle.hv_sas.proofs.Members.{both, first_true, second_true}

both_tests : (a b : Bool) (P Q : Type 0) → (IsTrue a ↔ P) → (IsTrue b ↔ Q)
    → IsTrue (a && b) ↔ (P × Q)
both_tests a b P Q p q = (
  λ t. (p.0 (first_true a b t), q.0 (second_true a b t)),
  λ w. both a b (p.1 w.0) (q.1 w.1),
)

upto_test : (n len : ℕ) (items : ℕ) → len ≡ items → IsTrue (leb len n) ↔ (items ≤ n)
upto_test n len items e =
    subst (λ (k : ℕ). IsTrue (leb len n) ↔ (k ≤ n)) e (λ t. leb-true len n t, λ l. le-leb len n l)

pub sound_tests : (sas : Sas) (a b c d e : Bool) (vs : List SasVariable) (state : List ℕ)
    (goal : List Fact) (ops : List SasOperator) (count : ℕ) → vs ≡ sas.variables
    → state ≡ sas.start → goal ≡ sas.goal → ops ≡ sas.operators → count ≡ length sas.operators
    → (IsTrue a ↔ HaveValues vs) → (IsTrue b ↔ (values_in vs ≤ 65535))
    → (IsTrue c ↔ IsAssignment vs state) → (IsTrue d ↔ All (IsFact vs) goal)
    → (IsTrue e ↔ All (IsOperator vs) ops)
    → IsTrue (((((a && b) && c) && d) && e) && leb count 1000000) ↔ IsSoundSas sas
sound_tests sas a b c d e vs state goal ops count v s g o n ha hb hc hd he =
    let all = both_tests _ _ _ _ (both_tests _ _ _ _ (both_tests _ _ _ _ (both_tests _ _ _ _
    (both_tests _ _ _ _
    (subst (λ (us : List SasVariable). IsTrue a ↔ HaveValues us) v ha)
    (subst (λ (us : List SasVariable). IsTrue b ↔ (values_in us ≤ 65535)) v hb))
    (subst (λ (us : List SasVariable). IsTrue c ↔ IsAssignment us sas.start) v
    (subst (λ (t : List ℕ). IsTrue c ↔ IsAssignment vs t) s hc)))
    (subst (λ (us : List SasVariable). IsTrue d ↔ All (IsFact us) sas.goal) v
    (subst (λ (fs : List Fact). IsTrue d ↔ All (IsFact vs) fs) g hd)))
    (subst (λ (us : List SasVariable). IsTrue e ↔ All (IsOperator us) sas.operators) v
    (subst (λ (os : List SasOperator). IsTrue e ↔ All (IsOperator vs) os) o he)))
    (upto_test 1000000 count (length sas.operators) n) in (
      λ t.
          let w = all.0 t in
          record {
            variables = w.0.0.0.0.0;
            few_values = w.0.0.0.0.1;
            start = w.0.0.0.1;
            goal = w.0.0.1;
            operators = w.0.1;
            few_operators = w.1;
          },
      λ is. all.1 (
        ((((is.variables, is.few_values), is.start), is.goal), is.operators),
        is.few_operators,
      ),
    )
