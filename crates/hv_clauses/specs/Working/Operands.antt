-- The clauses of what operands name.
use Rattle.std.specs.Prelude.{◌≡◌, ℕ, zero, suc, Bool, true, List, [], ◌∷◌, ◌++◌, map}
use Rattle.std.specs.List.{All}
use Rattle.hv_task.specs.State.{names_atom}
use Rattle.hv_task.specs.Strips.{Strips, atoms}
use Rattle.hv_sets.specs.declared.literal.Literal.{Literal}
use Rattle.hv_sets.specs.declared.operand.Operand.{Operand}
use Rattle.hv_sets.specs.declared.operand.Which.{Which}
use Rattle.hv_sets.specs.Query.{in_which}
use Rattle.hv_propagation.specs.Marks.{over}
use Rattle.hv_clauses.specs.Store.{tests_of}
use Rattle.hv_propagation.specs.Effect.{late}
use Rattle.hv_sets.specs.declared.operand.Which.TheVariants as W

-- the literal of an atom with this sign, as a clause
abbrev pub unit : ℕ → Bool → List Literal
unit atom positive = record { atom = atom; positive = positive } ∷ []

-- the clauses of the set of one state alone, which has these of so many atoms: one for each atom
abbrev pub clauses_of_state : ℕ → List ℕ → List (List Literal)
clauses_of_state zero held = []
clauses_of_state (suc atoms) held =
    clauses_of_state atoms held ++ unit atoms (names_atom held atoms) ∷ []

-- the clauses of what an operand names: of the empty set the clause without literals, of that of
-- the initial state one for each atom, of that of the goal states one for each goal atom
abbrev pub clauses_in : Strips → (ℕ → List (List Literal)) → Which → List (List Literal)
clauses_in task formulas W.Empty = [] ∷ []
clauses_in task formulas W.Start = clauses_of_state (atoms task) task.start
clauses_in task formulas W.Goal = map (λ atom. unit atom true) task.goal
clauses_in task formulas (W.Set number) = formulas number

-- the state, seen through the effect where that is meant, is in what each operand names
abbrev pub InAll : Strips → (ℕ → List (List Literal)) → List ℕ → List Operand → List Bool → Type 0
InAll task formulas effect operands state =
    All (λ o. in_which task (tests_of formulas) o.which (over (late effect o.after) state) ≡ true)
    operands
