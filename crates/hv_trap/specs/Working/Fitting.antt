-- What fits a draft fits each extension of it: the law of the trait Pruner for notes of the
-- greatest trap.
use Rattle.std.specs.Prelude.{ℕ, List}
use Rattle.hv_task.specs.Strips.{Strips}
use Rattle.hv_lines.specs.Pruning.{Extends}
use Rattle.hv_lines.specs.declared.line.Expr.TheVariants as E
use Rattle.hv_lines.specs.declared.line.Line.{Line}
use Rattle.hv_lines.specs.declared.note.Note.{Note}
use Rattle.hv_lines.proofs.Extended.{expr_extended}
use Rattle.hv_lines.proofs.Outcomes.{notes_kept}
use Rattle.hv_trap.specs.Pruner.{AreTrapNotes, IsTrapSet, TrapCovers}

pub trap_set_kept : (task : Strips) (old new : List Line) → Extends task old new → (set : ℕ)
    → IsTrapSet task old set → IsTrapSet task new set
trap_set_kept task old new extends set (formula, clauses, negates, says, trap) = (
  formula,
  clauses,
  expr_extended task old new extends set (E.Not formula) negates,
  expr_extended task old new extends formula (E.Two clauses) says,
  trap,
)

pub notes_fit : (task : Strips) (old new : List Line) (notes : List Note)
    → AreTrapNotes task old notes → Extends task old new → AreTrapNotes task new notes
notes_fit task = notes_kept task (TrapCovers task) (IsTrapSet task) (trap_set_kept task)
