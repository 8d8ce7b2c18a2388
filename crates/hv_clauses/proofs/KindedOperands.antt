-- The clauses of what operands name are of one kind, so settled marks can be completed for them
-- together.
use Rattle.std.proofs.Common.{◌≡◌, ℕ, ◌<◌, ◌∙◌, Bool, true, List, length, get_or, sym, subst}
use Rattle.std.proofs.lemmas.List.Elements.{All-contains, All-weaker, Contains-get_or}
use Rattle.std.specs.List.{All, Contains}
use Rattle.hv_task.specs.State.{AreBelow}
use Rattle.hv_task.specs.Strips.{Strips, atoms}
use Rattle.hv_sets.specs.declared.literal.Literal.{Literal}
use Rattle.hv_sets.specs.declared.operand.Operand.{Operand}
use Rattle.hv_sets.specs.declared.operand.Which.{Which}
use Rattle.hv_sets.specs.declared.operand.Which.TheVariants as W
use Rattle.hv_formula.specs.Kinded.{CompletesClauses, IsShort}
use Rattle.hv_sets.specs.Query.{IsNamed, in_which}
use Rattle.hv_sets.specs.Truth.{in_clauses}
use Rattle.hv_propagation.specs.declared.completion.Completion.{Completion}
use Rattle.hv_propagation.specs.declared.completion.Completion.TheVariants as C
use Rattle.hv_propagation.specs.Clauses.{AreClauses}
use Rattle.hv_clauses.specs.Store.{tests_of}
use Rattle.hv_propagation.specs.Completion.{Completes}
use Rattle.hv_clauses.specs.Working.Laws.{constant_short}
use Rattle.hv_clauses.specs.Working.Operands.{InAll, clauses_in}
use Rattle.hv_propagation.specs.Effect.{late}
use Rattle.hv_propagation.specs.Marks.{filled, over, low}
use Rattle.hv_propagation.specs.Units.{AreSettled}
use Rattle.hv_propagation.proofs.Marked.{length-filled, length-low, length-over}
use Rattle.hv_clauses.proofs.OperandClauses.{clauses_in_below}
use Rattle.hv_formula.proofs.Kinded.{completes}

-- where settled marks can be completed for each of a list of conditions, they can for all of them
-- together
pub completes_all : {X : Type 0} (how : Completion) (n : ℕ) (xs : List X)
    (Holds : X → List Bool → Type 0)
    (Settled : X → List ℕ → Type 0)
    → ((x : X) → Contains xs x → Completes how (Holds x) (Settled x) n)
    → Completes how (λ state. All (λ x. Holds x state) xs)
    (λ marks. All (λ x. Settled x marks) xs) n
completes_all (C.Fill value) n xs Holds Settled each = λ marks size settled k d within.
    each (get_or xs k d) (Contains-get_or xs k d within) marks size (settled k d within)
completes_all C.Try n xs Holds Settled each = (
  λ marks state size long settled holds k d within.
      (each (get_or xs k d) (Contains-get_or xs k d within)).0 marks state size long
      (settled k d within) (holds k d within),
  λ marks size known settled k d within.
      (each (get_or xs k d) (Contains-get_or xs k d within)).1 marks size known
      (settled k d within),
)

-- the same condition by other words
pub completes_same : (how : Completion) (n : ℕ) (P Q : List Bool → Type 0) (S T : List ℕ → Type 0)
    → ((state : List Bool) → length state ≡ n → P state → Q state)
    → ((state : List Bool) → length state ≡ n → Q state → P state)
    → ((marks : List ℕ) → length marks ≡ n → T marks → S marks) → Completes how P S n
    → Completes how Q T n
completes_same (C.Fill value) n P Q S T on back settle it = λ marks size settled.
    on (filled value marks) (length-filled value marks ∙ size)
    (it marks size (settle marks size settled))
completes_same C.Try n P Q S T on back settle it = (
  λ marks state size long settled holds.
      on (over marks state) (length-over marks state ∙ long)
      (it.0 marks state size long (settle marks size settled) (back state long holds)),
  λ marks size known settled. on (low marks) (length-low marks ∙ size)
      (it.1 marks size known (settle marks size settled)),
)

module _ (IsOf : List Literal → Type 0) (short : (clause : List Literal) → IsShort clause
    → IsOf clause) where
  -- the clauses of a constant are of each kind
  constant_kind : (task : Strips) (formulas : ℕ → List (List Literal)) (which : Which)
      → ((number : ℕ) → which ≡ W.Set number → ⊥) → All IsOf (clauses_in task formulas which)
  constant_kind task formulas which none = All-weaker IsShort IsOf short
      (clauses_in task formulas which) (constant_short task formulas which none)

  -- and those of a set of the store are of its kind
  pub constants_kind : (task : Strips) (formulas : ℕ → List (List Literal)) (count : ℕ)
      (which : Which)
      → ((number : ℕ) → number < count → All IsOf (formulas number)) → IsNamed count which
      → All IsOf (clauses_in task formulas which)
  constants_kind task formulas count W.Empty each named = constant_kind task formulas W.Empty
      (λ n is. absurd cc)
  constants_kind task formulas count W.Start each named = constant_kind task formulas W.Start
      (λ n is. absurd cc)
  constants_kind task formulas count W.Goal each named = constant_kind task formulas W.Goal
      (λ n is. absurd cc)
  constants_kind task formulas count (W.Set number) each named = each number named

-- and they speak of the atoms of the task alone
pub constants_below : (task : Strips) (formulas : ℕ → List (List Literal)) (count : ℕ)
    (which : Which)
    → AreBelow (atoms task) task.goal
    → ((number : ℕ) → number < count → AreClauses (atoms task) (formulas number))
    → IsNamed count which
    → AreClauses (atoms task) (clauses_in task formulas which)
constants_below task formulas count which goal each named =
    clauses_in_below task formulas which goal
    (λ number is. each number (subst (IsNamed count) is named))

module _ (how : Completion) (IsOf : List Literal → Type 0) (law : CompletesClauses how IsOf)
    (short : (clause : List Literal) → IsShort clause → IsOf clause) (task : Strips)
    (formulas : ℕ → List (List Literal)) (count : ℕ) (effect : List ℕ)
    (same : (which : Which) (state : List Bool) → length state ≡ atoms task
    → in_which task (tests_of formulas) which state
    ≡ in_clauses (clauses_in task formulas which) state)
    (goal : AreBelow (atoms task) task.goal)
    (of_kind : (number : ℕ) → number < count → All IsOf (formulas number))
    (below_all : (number : ℕ) → number < count → AreClauses (atoms task) (formulas number)) where
  operand_completes : (o : Operand) → IsNamed count o.which
      → Completes how (λ state. in_which task (tests_of formulas) o.which
      (over (late effect o.after) state) ≡ true)
      (AreSettled (late effect o.after) (clauses_in task formulas o.which)) (atoms task)
  operand_completes o named =
      completes_same how (atoms task)
      (λ state. in_clauses (clauses_in task formulas o.which) (over (late effect o.after) state)
      ≡ true)
      (λ state. in_which task (tests_of formulas) o.which (over (late effect o.after) state) ≡ true)
      (AreSettled (late effect o.after) (clauses_in task formulas o.which))
      (AreSettled (late effect o.after) (clauses_in task formulas o.which))
      (λ state size e. same o.which (over (late effect o.after) state)
      (length-over (late effect o.after) state ∙ size) ∙ e)
      (λ state size e. sym (same o.which (over (late effect o.after) state)
      (length-over (late effect o.after) state ∙ size)) ∙ e)
      (λ marks size settled. settled)
      (completes how IsOf law (atoms task) (late effect o.after) (clauses_in task formulas o.which)
      (constants_below task formulas count o.which goal below_all named)
      (constants_kind IsOf short task formulas count o.which of_kind named))

  -- settled marks can be completed for the operands of a query together, each seen through the
  -- effect where that is meant
  pub operands_complete : (operands : List Operand) → All (λ o. IsNamed count o.which) operands
      → Completes how (InAll task formulas effect operands)
      (λ marks. All (λ o. AreSettled (late effect o.after) (clauses_in task formulas o.which) marks)
      operands) (atoms task)
  operands_complete operands named =
      completes_all how (atoms task) operands
      (λ o state. in_which task (tests_of formulas) o.which (over (late effect o.after) state)
      ≡ true)
      (λ o marks. AreSettled (late effect o.after) (clauses_in task formulas o.which) marks)
      (λ o c. operand_completes o (All-contains (λ o. IsNamed count o.which) operands o named c))
