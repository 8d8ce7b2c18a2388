-- What inquiries answer.
use Rattle.std.proofs.Common.{◌≡◌, ℕ, Bool, List, Option, subst}
use Rattle.hv_task.specs.Strips.{Strips, atoms}
use Rattle.hv_sets.specs.Cost.{ClausesPass, IsAnswer}
use Rattle.hv_sets.specs.Query.{is_clash}
use Rattle.hv_sets.specs.declared.finding.Finding.{Finding}
use Rattle.hv_sets.specs.declared.query.Query.{Query}
use Rattle.hv_bdd.specs.Live.{LivePass, NodeTask}
use Rattle.hv_bdd.specs.Nodes.{NodeList, in_node}
use Rattle.hv_clauses.specs.Inquiry.{InquiryState, asked_with}
use Rattle.hv_clauses.specs.Store.{formula_at, sizes_of, tests_of}
use Rattle.hv_formula.specs.Clausal.{FormulaState}
use Rattle.hv_basic.specs.Working.Asked.{with_action}

module _ (query : Query) (budget : ℕ) (found : Finding) (state : List Bool) where
  -- the answer about a list and a task
  abbrev pub IsNodeAnswer : NodeList → Strips → Type 0
  IsNodeAnswer list task = IsAnswer found (LivePass list task query budget) (atoms task)
      (is_clash task (in_node list) query) state

  -- an inquiry about the same answers about it
  pub answer_here : (inquiry old : NodeTask) → inquiry ≡ old
      → IsNodeAnswer inquiry.list inquiry.task → IsNodeAnswer old.list old.task
  answer_here inquiry old same answer =
      subst (λ (i : NodeTask). IsNodeAnswer i.list i.task) same answer

-- what an inquiry about this asks about
abbrev inquiry_about : Strips → List FormulaState → Query → ℕ → InquiryState
inquiry_about task store query budget = record {
  task = task;
  store = store;
  positive = query.positive;
  negative = query.negative;
  budget = budget;
}

module _ (action : Option ℕ) (found : Finding) (state : List Bool) where
  -- the answer of an inquiry over formulas in clauses
  abbrev pub IsClauseAnswer : InquiryState → Type 0
  IsClauseAnswer i = IsAnswer found
      (ClausesPass i.task (sizes_of (formula_at i.store)) (asked_with i.positive i.negative action)
      i.budget) (atoms i.task)
      (is_clash i.task (tests_of (formula_at i.store)) (asked_with i.positive i.negative action))
      state

  -- an inquiry about this task, store and query answers about them
  pub clause_answer_here : (i : InquiryState) (task : Strips) (store : List FormulaState)
      (query : Query) (budget : ℕ) → i.task ≡ task → i.store ≡ store
      → i.positive ≡ query.positive → i.negative ≡ query.negative → i.budget ≡ budget
      → IsClauseAnswer i
      → IsAnswer found (ClausesPass task (sizes_of (formula_at store)) (with_action query action)
      budget) (atoms task)
      (is_clash task (tests_of (formula_at store)) (with_action query action)) state
  clause_answer_here i task store query budget is_task is_store is_positive is_negative is_budget
      answer =
      let same : i ≡ inquiry_about task store query budget = λ j. record {
        task = is_task j;
        store = is_store j;
        positive = is_positive j;
        negative = is_negative j;
        budget = is_budget j;
      } in
      subst IsClauseAnswer same answer
