-- An inquiry that is turned to another action.
use Rattle.std.proofs.Common.{◌≡◌, ◌<◌, ◌≤◌, ℕ, Bool, true, false, List, Option, None, Some, IfSome}
use Rattle.std.proofs.Common.{sym, ap, arith, subst}
use Rattle.std.specs.Option.{MatchOption}
use Rattle.hv_task.specs.Strips.{Strips, atoms}
use Rattle.hv_sets.specs.declared.finding.Finding.{Finding}
use Rattle.hv_sets.specs.declared.finding.Finding.TheVariants as F
use Rattle.hv_sets.specs.declared.operand.Operand.{Operand}
use Rattle.hv_sets.specs.Cost.{ClausesPass, IsAnswer}
use Rattle.hv_formula.specs.Clausal.{FormulaState}
use Rattle.hv_sets.specs.Query.{is_clash}
use Rattle.hv_clauses.specs.declared.find.Means.{Means}
use Rattle.hv_clauses.specs.declared.opening.Opening.{Opening}
use Rattle.hv_clauses.specs.declared.opening.Opening.TheVariants as O
use Rattle.hv_clauses.specs.Inquiry.{InquiryState, asked_with}
use Rattle.hv_clauses.specs.Store.{formula_at, sizes_of, tests_of}
use Rattle.hv_clauses.specs.Working.Early.{AreMeans, AreMeansWithin, IsOpened}
use Rattle.hv_clauses.specs.Working.Found.{IsAskedTwice, IsFound}
use Rattle.hv_clauses.specs.Working.Posed.{ProblemState, choices, formulas, turned_to, width}
use Rattle.hv_propagation.specs.Trail.{Knowledge}
use Rattle.hv_clauses.proofs.EarlyParts.{twice_turned}

-- what an inquiry that has this problem asks about
abbrev pub inquiry_of : ProblemState → ℕ → InquiryState
inquiry_of p budget = record {
  task = p.task;
  store = p.store;
  positive = p.query.positive;
  negative = p.query.negative;
  budget = budget;
}

if_some_then : {A : Type 0} (P Q : A → Type 0) (o : Option A) → ((x : A) → P x → Q x)
    → IfSome o P → IfSome o Q
if_some_then P Q None from h = tt
if_some_then P Q (Some x) from h = from x h

-- the cost that was worked out
pub over_from : (p : ProblemState) (budget : ℕ) (means : Means) → AreMeansWithin p budget means
    → means.cost ≡ None → budget < choices p
over_from p budget means are is =
    subst (λ o. MatchOption o (budget < choices p) (λ cost. (cost ≡ choices p) × (cost ≤ budget)))
    is are.0

pub cost_from : (p : ProblemState) (budget : ℕ) (means : Means) → AreMeansWithin p budget means
    → (cost : ℕ) → means.cost ≡ Some cost → (cost ≡ choices p) × (cost ≤ budget)
cost_from p budget means are cost is =
    subst (λ o. MatchOption o (budget < choices p) (λ cost. (cost ≡ choices p) × (cost ≤ budget)))
    is are.0

module _ (p : ProblemState) (action : Option ℕ) (effect : List ℕ) where
  opened_at : (opening : Opening) (k : Knowledge) → IsOpened p opening k
      → IsOpened (turned_to p action effect) opening k
  opened_at O.Unasked k h = h
  opened_at O.Never k h = h
  opened_at O.Closed k h = h
  opened_at O.Anew k h = h

-- A problem that another one was turned to.
module _ (p q : ProblemState) (action : Option ℕ) (turned : q ≡ turned_to p action q.effect) where
  pub choices_turned : choices q ≡ choices p
  choices_turned = ap choices turned

  pub width_turned : width q ≡ width p
  width_turned = ap width turned

  pub means_turned : (means : Means) → AreMeans p means → AreMeans q means
  means_turned means are =
      subst (λ (x : ProblemState). AreMeans x means) (sym turned)
      (if_some_then (IsAskedTwice p) (IsAskedTwice (turned_to p action q.effect)) means.twin
      (λ o is. twice_turned p action q.effect o is) are)

  pub means_within_turned : (budget : ℕ) (means : Means) → AreMeansWithin p budget means
      → AreMeansWithin q budget means
  means_within_turned budget means are = (
    subst (λ n. MatchOption means.cost (budget < n) (λ cost. (cost ≡ n) × (cost ≤ budget)))
        (sym choices_turned) are.0,
    means_turned means are.1,
  )

  pub opened_turned : (opening : Opening) (k : Knowledge) → IsOpened p opening k
      → IsOpened q opening k
  opened_turned opening k opened =
      subst (λ (x : ProblemState). IsOpened x opening k) (sym turned)
      (opened_at p action q.effect opening k opened)

  -- what is answered of it is the answer that is asked for
  pub answered : (budget : ℕ) (v : InquiryState) → inquiry_of p budget ≡ v → (finding : Finding)
      (found : List Bool)
      → IsAnswer finding (budget < choices q) (width q)
      (is_clash q.task (tests_of (formulas q)) q.query) found
      → IsAnswer finding (ClausesPass v.task (sizes_of (formula_at v.store))
      (asked_with v.positive v.negative action) v.budget) (atoms v.task)
      (is_clash v.task (tests_of (formula_at v.store)) (asked_with v.positive v.negative action))
      found
  answered budget v same finding found answer =
      subst (λ (v : InquiryState). IsAnswer finding (ClausesPass v.task
      (sizes_of (formula_at v.store))
      (asked_with v.positive v.negative action) v.budget) (atoms v.task)
      (is_clash v.task (tests_of (formula_at v.store)) (asked_with v.positive v.negative action))
      found) same
      (subst (λ (x : ProblemState). IsAnswer finding (budget < choices x) (width x)
      (is_clash x.task (tests_of (formulas x)) x.query) found) turned answer)

  -- the cost is within the budget
  pub within_turned : (budget : ℕ) (means : Means) → AreMeansWithin p budget means → (cost : ℕ)
      → means.cost ≡ Some cost → budget < choices q → ⊥
  within_turned budget means are cost is passes =
      let known = cost_from p budget means are cost is in
      omega (arith, known.0, known.1, choices_turned)

  -- the answer of a search that found a counterexample, or that there is none
  pub clash_answered : (budget : ℕ) (v : InquiryState) → inquiry_of p budget ≡ v
      → (budget < choices q → ⊥) → (found : List Bool)
      → IsFound true (width q) (is_clash q.task (tests_of (formulas q)) q.query) found
      → IsAnswer F.Clash (ClausesPass v.task (sizes_of (formula_at v.store))
      (asked_with v.positive v.negative action) v.budget) (atoms v.task)
      (is_clash v.task (tests_of (formula_at v.store)) (asked_with v.positive v.negative action))
      found
  clash_answered budget v same within found met =
      answered budget v same F.Clash found (within, met.0, met.1)

  pub empty_answered : (budget : ℕ) (v : InquiryState) → inquiry_of p budget ≡ v
      → (budget < choices q → ⊥) → (found : List Bool)
      → IsFound false (width q) (is_clash q.task (tests_of (formulas q)) q.query) found
      → IsAnswer F.Empty (ClausesPass v.task (sizes_of (formula_at v.store))
      (asked_with v.positive v.negative action) v.budget) (atoms v.task)
      (is_clash v.task (tests_of (formula_at v.store)) (asked_with v.positive v.negative action))
      found
  empty_answered budget v same within found none =
      answered budget v same F.Empty found (within, none)

  -- what is asked about is the same
  pub inquiry_turned : (budget : ℕ) → inquiry_of q budget ≡ inquiry_of p budget
  inquiry_turned budget = ap (λ (x : ProblemState). inquiry_of x budget) turned

-- the finding is the answer to the query with these operands and this action
abbrev pub IsAnswerOf : Finding → List Bool → Option ℕ → Strips → List FormulaState → List Operand
    → List Operand → ℕ → Type 0
IsAnswerOf finding found action task store positive negative budget =
    IsAnswer finding (ClausesPass task (sizes_of (formula_at store))
    (asked_with positive negative action) budget) (atoms task)
    (is_clash task (tests_of (formula_at store)) (asked_with positive negative action)) found

-- an inquiry answers what it was made for
pub answer_same : (finding : Finding) (found : List Bool) (action : Option ℕ) (v w : InquiryState)
    → v.task ≡ w.task → v.store ≡ w.store → v.positive ≡ w.positive → v.negative ≡ w.negative
    → v.budget ≡ w.budget
    → IsAnswerOf finding found action v.task v.store v.positive v.negative v.budget
    → IsAnswerOf finding found action w.task w.store w.positive w.negative w.budget
answer_same finding found action v w task store positive negative budget answer =
    subst (λ b. IsAnswerOf finding found action w.task w.store w.positive w.negative b) budget
    (subst (λ n. IsAnswerOf finding found action w.task w.store w.positive n v.budget) negative
    (subst (λ o. IsAnswerOf finding found action w.task w.store o v.negative v.budget) positive
    (subst (λ s. IsAnswerOf finding found action w.task s v.positive v.negative v.budget) store
    (subst (λ t. IsAnswerOf finding found action t v.store v.positive v.negative v.budget) task
    answer))))
