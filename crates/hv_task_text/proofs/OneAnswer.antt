-- One answer to the pieces of a file: a task and a fault exclude each other, the task is one, and
-- the first fault is one.
use Rattle.std.proofs.Common.{◌≡◌, ℕ, ◌∙◌, List, Option, None, Some, [], length, sym, ap}
use Rattle.hv_bytes.specs.Pieces.{PieceBytes}
use Rattle.hv_grammar.specs.Parsers.{Outcome, parsed}
use Rattle.hv_task.specs.Strips.{Strips}
use Rattle.hv_task_text.specs.TaskFile.{task_fault_in}
use Rattle.hv_task_text.specs.TaskText.{AreTaskTextOf, HasTaskFault}
use Rattle.hv_task_text.specs.declared.fault.TaskFault.{TaskFault}
use Rattle.hv_task_text.specs.declared.fault.TaskRefusal.{TaskRefusal}
use Rattle.hv_task_text.proofs.Joined.{text_is_read}

same_value : (a b : Strips) (n m : ℕ) (ps qs : List PieceBytes)
    → ◌≡◌ {A = Outcome TaskRefusal Strips} (parsed a n ps) (parsed b m qs) → a ≡ b
same_value a b n m ps qs e = cc

same_fault : (f g : TaskFault) → ◌≡◌ {A = Option TaskFault} (Some f) (Some g) → f ≡ g
same_fault f g e = cc

no_fault : (f : TaskFault) → ◌≡◌ {A = Option TaskFault} None (Some f) → ⊥
no_fault f e = absurd cc

-- a text denotes one task
pub one_task : (pieces : List PieceBytes) (s t : Strips) → AreTaskTextOf pieces s → AreTaskTextOf
    pieces t
    → s ≡ t
one_task pieces s t p q =
    same_value s t (length pieces) (length pieces) [] []
    (sym (text_is_read pieces s p) ∙ text_is_read pieces t q)

-- a text has no fault
pub text_or_fault : (pieces : List PieceBytes) (task : Strips) (fault : TaskFault)
    → AreTaskTextOf pieces task → HasTaskFault pieces fault → ⊥
text_or_fault pieces task fault p q =
    no_fault fault (sym (ap task_fault_in (text_is_read pieces task p)) ∙ q)

-- the first fault is one
pub one_fault : (pieces : List PieceBytes) (f g : TaskFault) → HasTaskFault pieces f
    → HasTaskFault pieces g → f ≡ g
one_fault pieces f g p q = same_fault f g (sym p ∙ q)
