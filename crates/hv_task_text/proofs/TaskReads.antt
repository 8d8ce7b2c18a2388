-- What reading a task text gives where it stops.
use Rattle.std.proofs.Common.{◌≡◌, ℕ, List, None, Some, IfSome, Option, Ok, Err, ap, refl, subst}
use Rattle.std.proofs.Common.{sym}
use Rattle.std.specs.Prelude.{IsErrAnd, Result}
use Rattle.hv_bytes.specs.Files.{Names, bytes_of}
use Rattle.hv_bytes.specs.Pieces.{pieces_of}
use Rattle.hv_bytes.specs.declared.cutting.Limits.{Limits}
use Rattle.hv_grammar.specs.Reads.{IsOfNoLine}
use Rattle.hv_grammar.specs.Working.Reads.{IsReadAs}
use Rattle.hv_grammar.specs.declared.fault.ParseFault.{ParseFault}
use Rattle.hv_grammar.specs.declared.fault.ParseFault.TheVariants as P
use Rattle.hv_grammar.proofs.Whole.{not_opened}
use Rattle.hv_task.specs.Strips.{Strips}
use Rattle.hv_task_text.specs.TaskFile.{task_fault, task_fault_in, task_file}
use Rattle.hv_task_text.specs.TaskText.{IsTaskReadFrom}
use Rattle.hv_task_text.specs.declared.fault.TaskFault.{TaskFault}
use Rattle.hv_task_text.specs.declared.fault.TaskRefusal.{TaskRefusal}
use Rattle.hv_task_text.specs.declared.fault.TaskRefusal.TheVariants as R

module _ (limits : Limits) (bytes : List ℕ) where
  stopped : (e : ParseFault TaskRefusal) (result : Result Strips TaskFault)
      → IsReadAs {A = Strips} (task_file 0 (pieces_of limits bytes)) (Err e)
      → IsErrAnd result (λ f. f ≡ task_fault e) → IsTaskReadFrom limits bytes result
  stopped e (Ok task) h is = absurd is
  stopped (P.Refused n (R.Place kind)) (Err f) h is =
      subst (λ x. IsTaskReadFrom limits bytes (Err x)) (sym is) (ap task_fault_in h)
  stopped (P.Refused n (R.Limit limit)) (Err f) h is =
      subst (λ x. IsTaskReadFrom limits bytes (Err x)) (sym is) (ap task_fault_in h)
  stopped (P.Long n) (Err f) h is =
      subst (λ x. IsTaskReadFrom limits bytes (Err x)) (sym is) (ap task_fault_in h)
  stopped P.ReadFault (Err f) h is =
      subst (λ x. IsTaskReadFrom limits bytes (Err x)) (sym is) tt
  stopped P.Memory (Err f) h is =
      subst (λ x. IsTaskReadFrom limits bytes (Err x)) (sym is) tt

-- the fault of the file, as a fault of the task text
pub task_stopped : (files : Option Names) (name : List ℕ) (limits : Limits)
    (e : ParseFault TaskRefusal) (result : Result Strips TaskFault)
    → IfSome files (λ f. IsReadAs {A = Strips} (task_file 0 (pieces_of limits (bytes_of f name)))
    (Err e))
    → IsErrAnd result (λ f. f ≡ task_fault e)
    → IfSome files (λ f. IsTaskReadFrom limits (bytes_of f name) result)
task_stopped None name limits e result h is = tt
task_stopped (Some f) name limits e result h is = stopped limits (bytes_of f name) e result h is

-- the file couldn't be opened
pub not_found : {T : Type 0} (files : Option Names) (name : List ℕ) (limits : Limits)
    (opened : Result T (ParseFault TaskRefusal)) (e : ParseFault TaskRefusal)
    (result : Result Strips TaskFault) → opened ≡ Err e → IsOfNoLine e
    → IsErrAnd result (λ f. f ≡ task_fault e)
    → IfSome files (λ f. IsTaskReadFrom limits (bytes_of f name) result)
not_found files name limits opened e result was out is =
    task_stopped files name limits e result
    (not_opened task_file files name limits e (Err e) out refl) is
