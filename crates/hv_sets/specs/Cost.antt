-- What a query costs, and what it is answered within a budget.
use Rattle.std.specs.Prelude.{◌≡◌, ◌<◌, ◌*◌, ◌+◌, ℕ, Bool, true, false, List, [], ◌∷◌, length}
use Rattle.hv_task.specs.Strips.{Strips, atoms}
use Rattle.hv_sets.specs.declared.finding.Finding.{Finding}
use Rattle.hv_sets.specs.declared.finding.Finding.TheVariants as F
use Rattle.hv_sets.specs.declared.operand.Operand.{Operand}
use Rattle.hv_sets.specs.declared.operand.Which.{Which}
use Rattle.hv_sets.specs.declared.operand.Which.TheVariants as W
use Rattle.hv_sets.specs.declared.query.Query.{Query}
use Rattle.hv_sets.specs.Query.{IsAnchor}

-- nothing is counted further: no inclusion and no check has a greater budget, no walk is asked for
-- more steps, and no list has more nodes
abbrev pub most_counted : ℕ
most_counted = 16777216

-- how many clauses an operand has, where the sets of the store have so many each: the empty set has
-- one, that of the initial state one for each atom, and that of the goal states one for each goal
-- atom
abbrev pub clauses_of : Strips → (ℕ → ℕ) → Which → ℕ
clauses_of task clauses W.Empty = 1
clauses_of task clauses W.Start = atoms task
clauses_of task clauses W.Goal = length task.goal
clauses_of task clauses (W.Set number) = clauses number

-- how many ways there are to choose one clause of each operand
abbrev pub choices_of : Strips → (ℕ → ℕ) → List Operand → ℕ
choices_of task clauses [] = 1
choices_of task clauses (operand ∷ operands) =
    clauses_of task clauses operand.which * choices_of task clauses operands

-- how many clauses the operands have together
abbrev pub clauses_among : Strips → (ℕ → ℕ) → List Operand → ℕ
clauses_among task clauses [] = 0
clauses_among task clauses (operand ∷ operands) =
    clauses_of task clauses operand.which + clauses_among task clauses operands

-- over clauses, the cost of a query is the number of ways to choose one clause of each negative
-- operand: that exceeds the budget
abbrev pub ClausesPass : Strips → (ℕ → ℕ) → Query → ℕ → Type 0
ClausesPass task clauses query budget = budget < choices_of task clauses query.negative

-- how many states an operand that can be the anchor lists, where the sets of the store list so many
-- each: the empty set none, that of the initial state one
abbrev pub states_of : (ℕ → ℕ) → Which → ℕ
states_of states W.Start = 1
states_of states (W.Set number) = states number
states_of states _ = 0

-- over listed states, the cost of a query is the number of states that its anchor lists: that
-- exceeds the budget
abbrev pub StatesPass : (ℕ → ℕ) → Query → ℕ → Type 0
StatesPass states query budget = (operand : Operand) × IsAnchor query.positive operand
    × (budget < states_of states operand.which)

-- the exact answer to a query: that its cost exceeds the budget, that this state is a
-- counterexample, or that no state of the task is one
abbrev pub IsAnswer : Finding → Type 0 → ℕ → (List Bool → Bool) → List Bool → Type 0
IsAnswer F.Over Passes atoms clash found = Passes
IsAnswer F.Clash Passes atoms clash found = (Passes → ⊥) × (length found ≡ atoms)
    × (clash found ≡ true)
IsAnswer F.Empty Passes atoms clash found = (Passes → ⊥)
    × ((state : List Bool) → length state ≡ atoms → clash state ≡ false)
