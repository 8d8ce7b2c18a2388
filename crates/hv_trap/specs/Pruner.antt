-- What the pruner by the greatest trap covers, and what it writes.
use Rattle.std.specs.Prelude.{◌≡◌, ◌≤◌, ◌+◌, ℕ, Bool, List, Some, slice_get}
use Rattle.hv_task.specs.Strips.{Strips, atoms}
use Rattle.hv_sets.specs.declared.literal.Literal.{Literal}
use Rattle.hv_lines.specs.Numbering.{expr_at, expr_count, known_count}
use Rattle.hv_lines.specs.Pruning.{IsNoted}
use Rattle.hv_lines.specs.declared.line.Expr.TheVariants as E
use Rattle.hv_lines.specs.declared.line.Line.{Line}
use Rattle.hv_lines.specs.declared.note.Note.{Note}
use Rattle.hv_trap.specs.Trap.{AreTrapClauses, IsSatisfied}
use Rattle.hv_trap.specs.Written.{trap_block}

-- the state satisfies a conjunction of the greatest trap, in a task of at most 64 atoms
abbrev pub TrapCovers : Strips → List Bool → Type 0
TrapCovers task state = (atoms task ≤ 64) × IsSatisfied task state

-- the nine lines which show that the states are dead that satisfy a conjunction of the greatest
-- trap, behind these lines, and their note
abbrev pub IsTrapBlock : Strips → List Line → List Line → Note → Type 0
IsTrapBlock task lines block note =
    (clauses : List (List Literal)) × AreTrapClauses task clauses
    × (block ≡ trap_block (expr_count lines) (known_count lines) clauses)
    × (note.set ≡ expr_count lines + 1) × (note.line ≡ known_count lines + 3)

-- the set is a formula of these clauses
abbrev pub IsFormulaOf : List Line → ℕ → List (List Literal) → Type 0
IsFormulaOf lines set clauses = expr_at lines set ≡ Some (E.Two clauses)

-- the set has the states in which some clause of the greatest trap is false
abbrev pub IsTrapSet : Strips → List Line → ℕ → Type 0
IsTrapSet task lines set =
    (formula : ℕ) × (clauses : List (List Literal)) × (expr_at lines set ≡ Some (E.Not formula))
    × IsFormulaOf lines formula clauses × AreTrapClauses task clauses

-- the notes are in the lines, and each is of this set
abbrev pub AreTrapNotes : Strips → List Line → List Note → Type 0
AreTrapNotes task lines notes =
    (k : ℕ) (note : Note) → slice_get notes k ≡ Some note
    → IsNoted task (TrapCovers task) lines note × IsTrapSet task lines note.set
