-- What a translator file denotes, its first fault, and what a reader answers.
use Rattle.std.specs.Prelude.{◌≡◌, ℕ, List, Result, Ok, Err}
use Rattle.hv_bytes.specs.Pieces.{PieceBytes, pieces_of}
use Rattle.hv_bytes.specs.declared.cutting.Limits.{Limits}
use Rattle.hv_grammar.specs.Parsers.{Outcome, parsed, long, refused}
use Rattle.hv_sas.specs.declared.fault.SasRefusal.{SasRefusal}
use Rattle.hv_sas.specs.declared.fault.SasRefusal.TheVariants as R
use Rattle.hv_sas.specs.declared.fault.SasFault.{SasFault}
use Rattle.hv_sas.specs.declared.fault.SasFault.TheVariants as F
use Rattle.hv_sas.specs.declared.fault.SasLimit.TheVariants as L
use Rattle.hv_sas.specs.declared.sas_task.Sas.{Sas}
use Rattle.hv_sas.specs.Text.{sas_file}

-- the fault of a line that is refused in this way
abbrev pub sas_fault_at : ℕ → SasRefusal → SasFault
sas_fault_at line (R.Place kind) = F.Place line kind
sas_fault_at line (R.Unsupported which) = F.Unsupported line which
sas_fault_at line (R.Limit limit) = F.Limit line limit

-- what comes of a file, as an answer
abbrev pub answer_of : Outcome SasRefusal Sas → Result Sas SasFault
answer_of (parsed sas line rest) = Ok sas
answer_of (refused line bad) = Err (sas_fault_at line bad)
answer_of (long line) = Err (F.Limit line L.Long)

-- what the pieces of a file denote: the one task, or else their first fault
abbrev pub sas_in : List PieceBytes → Result Sas SasFault
sas_in pieces = answer_of (sas_file 0 pieces)

-- what a reader answers to these bytes: what the pieces denote; faults of the device and want of
-- memory are free here
abbrev pub IsSasReadFrom : Limits → List ℕ → Result Sas SasFault → Type 0
IsSasReadFrom limits bytes (Ok sas) = sas_in (pieces_of limits bytes) ≡ Ok sas
IsSasReadFrom limits bytes (Err (F.Place line kind)) =
    sas_in (pieces_of limits bytes) ≡ Err (F.Place line kind)
IsSasReadFrom limits bytes (Err (F.Unsupported line which)) =
    sas_in (pieces_of limits bytes) ≡ Err (F.Unsupported line which)
IsSasReadFrom limits bytes (Err (F.Limit line limit)) =
    sas_in (pieces_of limits bytes) ≡ Err (F.Limit line limit)
IsSasReadFrom limits bytes (Err F.ReadFault) = Unit {0}
IsSasReadFrom limits bytes (Err F.Memory) = Unit {0}
