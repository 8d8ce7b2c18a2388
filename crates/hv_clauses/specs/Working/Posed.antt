-- A query as it is asked: with the task and the store of which it is asked, and the effect of its
-- action.
use Rattle.std.specs.Prelude.{◌≡◌, ◌<◌, ◌++◌, ℕ, Bool, true, List, Option, IfSome, length}
use Rattle.std.specs.List.{All}
use Rattle.hv_task.specs.Strips.{IsTask, Strips, atoms}
use Rattle.hv_sets.specs.declared.literal.Literal.{Literal}
use Rattle.hv_sets.specs.declared.operand.Which.{Which}
use Rattle.hv_sets.specs.declared.query.Query.{Query}
use Rattle.hv_sets.specs.Cost.{choices_of, clauses_of}
use Rattle.hv_sets.specs.Query.{IsNamed, action_of, may_apply}
use Rattle.hv_formula.specs.Clausal.{FormulaState}
use Rattle.hv_clauses.specs.Inquiry.{asked_with}
use Rattle.hv_clauses.specs.Store.{sizes_of, AreOver, formula_at}
use Rattle.hv_clauses.specs.Working.Operands.{InAll}
use Rattle.hv_propagation.specs.Effect.{IsEffect}

-- a query, the task and the store of which it is asked, and the effect of its action
pub record ProblemState : Type 0 where
  pub task : Strips
  pub store : List FormulaState
  pub query : Query
  pub effect : List ℕ

-- how many atoms the task has
abbrev pub width : ProblemState → ℕ
width p = atoms p.task

-- the clauses of each set of the store, by number
abbrev pub formulas : ProblemState → ℕ → List (List Literal)
formulas p = formula_at p.store

-- how many clauses each set of the store has, by number
abbrev pub sizes : ProblemState → ℕ → ℕ
sizes p = sizes_of (formula_at p.store)

-- how many clauses what is named has
abbrev pub size_in : ProblemState → Which → ℕ
size_in p which = clauses_of p.task (sizes p) which

-- how many choices there are of one clause of each negative operand
abbrev pub choices : ProblemState → ℕ
choices p = choices_of p.task (sizes p) p.query.negative

-- the action is applicable in the state, if there is one
abbrev pub Applies : ProblemState → List Bool → Type 0
Applies p state = may_apply (action_of p.task p.query.action) state ≡ true

-- the state, seen through the effect where that is meant, is in each positive operand
abbrev pub InEach : ProblemState → List Bool → Type 0
InEach p state = InAll p.task (formulas p) p.effect p.query.positive state

-- the query can be asked of the store: the task is one, the sets that it names are there, the
-- formulas are over the atoms of the task, and the effect is that of its action, which is one of
-- the task
pub record IsPosed (p : ProblemState) : Type 0 where
  pub task : IsTask p.task
  pub named : All (λ o. IsNamed (length p.store) o.which) (p.query.positive ++ p.query.negative)
  pub over : AreOver p.store (atoms p.task)
  pub among : IfSome p.query.action (λ a. a < length p.task.actions)
  pub does : IsEffect (action_of p.task p.query.action) p.effect
  pub wide : length p.effect ≡ atoms p.task

-- the problem with this action, which has this effect, in place of its own
abbrev pub turned_to : ProblemState → Option ℕ → List ℕ → ProblemState
turned_to p action effect = record {
  task = p.task;
  store = p.store;
  query = asked_with p.query.positive p.query.negative action;
  effect = effect;
}
