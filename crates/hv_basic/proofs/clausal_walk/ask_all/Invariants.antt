use Rattle.std.proofs.Common.{◌≡◌, ℕ, ◌<◌, Option, Some, length}
use Rattle.std.specs.List.{slice_get}
use Rattle.hv_task.specs.Strips.{atoms}
use Rattle.hv_clauses.specs.Store.{formula_at, sizes_of, tests_of}
use Rattle.hv_sets.specs.Cost.{ClausesPass}
use Rattle.hv_sets.specs.Query.{is_clash}
use Rattle.hv_lines.specs.Verdicts.{DecidesNothing}
use Rattle.hv_basic.specs.Working.Asked.{with_action}
use Rattle.hv_basic.proofs.clausal_walk.ask_all.Given as goal

abbrev pub invariant-loop-action : goal.invariant-loop-action
invariant-loop-action g l = record {
  task : l.inquiry.task ≡ l.case.task.now;
  store : l.inquiry.store ≡ l.sets;
  positive : l.inquiry.positive ≡ l.query.positive;
  negative : l.inquiry.negative ≡ l.query.negative;
  budget : l.inquiry.budget ≡ l.case.budget;
  state : length l.state ≡ length l.fn.state;
  settled : (place : ℕ) (action : Option ℕ) → place < l.action-index
      → slice_get l.actions place ≡ Some action
      → DecidesNothing (λ q. ClausesPass l.case.task.now (sizes_of (formula_at l.sets)) q
      l.case.budget)
      (is_clash l.case.task.now (tests_of (formula_at l.sets))) (atoms l.case.task.now)
      (with_action l.query action);
}
