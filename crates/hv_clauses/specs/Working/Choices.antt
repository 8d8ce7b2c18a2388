-- Choices of one clause of each negative operand, as numbers: the digits of a number, each to the
-- base of its operand's count of clauses, name the clauses.
use Rattle.std.specs.Prelude.{◌≡◌, ◌%◌, ◌/◌, ℕ, Bool, false, List, [], ◌∷◌, length, ⊤}
use Rattle.hv_task.specs.Strips.{Strips}
use Rattle.hv_sets.specs.declared.literal.Literal.{Literal}
use Rattle.hv_sets.specs.declared.operand.Operand.{Operand}
use Rattle.hv_sets.specs.Truth.{in_clause}
use Rattle.hv_clauses.specs.Working.Operands.{clauses_in}
use Rattle.hv_propagation.specs.Effect.{late}
use Rattle.hv_propagation.specs.Marks.{over}
use Rattle.hv_propagation.specs.Units.{AreFalse}
use Rattle.hv_indexes.specs.Places.{clause_at}

-- the state, seen through the effect where that is meant, is in none of the clauses that the number
-- chooses
abbrev pub Breaks : Strips → (ℕ → List (List Literal)) → List ℕ → List Operand → ℕ → List Bool
    → Type 0
Breaks task formulas effect [] number state = ⊤
Breaks task formulas effect (o ∷ os) number state =
    (in_clause
    (clause_at (clauses_in task formulas o.which)
    (number % length (clauses_in task formulas o.which)))
    (over (late effect o.after) state) ≡ false)
    × Breaks task formulas effect os (number / length (clauses_in task formulas o.which)) state

-- each literal of each clause that the number chooses is known to be false
abbrev pub AreChosenFalse : Strips → (ℕ → List (List Literal)) → List ℕ → List Operand → ℕ → List ℕ
    → Type 0
AreChosenFalse task formulas effect [] number marks = ⊤
AreChosenFalse task formulas effect (o ∷ os) number marks =
    AreFalse (late effect o.after)
    (clause_at (clauses_in task formulas o.which)
    (number % length (clauses_in task formulas o.which)))
    marks
    × AreChosenFalse task formulas effect os
    (number / length (clauses_in task formulas o.which)) marks
