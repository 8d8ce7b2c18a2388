-- Logs as texts: which pieces of a file are the text of a log, and otherwise their first fault.
use Rattle.std.specs.Prelude.{◌≡◌, ◌++◌, ℕ, List, [], ◌∷◌, Some, Result, Ok, Err, map}
use Rattle.hv_bytes.specs.Pieces.{PieceBytes, as_pieces, pieces_of}
use Rattle.hv_bytes.specs.Standard.{most_line_bytes}
use Rattle.hv_bytes.specs.declared.cutting.Limits.{Limits}
use Rattle.hv_replay.specs.LogFile.{end_line, log_fault_in, log_file}
use Rattle.hv_replay.specs.Logs.{IsLog, SearchLog, entry_line}
use Rattle.hv_replay.specs.declared.fault.LogFault.{LogFault}
use Rattle.hv_replay.specs.declared.fault.LogFault.TheVariants as F

-- The limits of the lines of a log. A line of more than 16,777,216 bytes ends past byte 8,388,608
-- too: so a line is long exactly where its last byte lies past that one.
abbrev pub log_limits : Limits
log_limits = record { line = most_line_bytes; file = 8388608 }

-- the pieces are the text of this log, which is within the limits; so none of its lines is long
pub record IsLogTextOf (pieces : List PieceBytes) (log : SearchLog) : Type 0 where
  pub legal : IsLog log.atoms log.entries
  pub spelled : as_pieces (map entry_line log.entries ++ end_line ∷ []) ≡ pieces

-- the same of a log of a task with so many atoms
abbrev pub AreLogTextOf : ℕ → List PieceBytes → SearchLog → Type 0
AreLogTextOf atoms pieces log = (log.atoms ≡ atoms) × IsLogTextOf pieces log

-- the first fault of the pieces is this one
abbrev pub HasLogFault : ℕ → List PieceBytes → LogFault → Type 0
HasLogFault atoms pieces fault = log_fault_in (log_file atoms 0 pieces) ≡ Some fault

-- what a reader answers to these bytes: the log where they are a text, and else the first fault;
-- faults of the device and running out of memory are free here
abbrev pub IsLogReadFrom : ℕ → List ℕ → Result SearchLog LogFault → Type 0
IsLogReadFrom atoms bytes (Ok log) = AreLogTextOf atoms (pieces_of log_limits bytes) log
IsLogReadFrom atoms bytes (Err (F.Place number)) =
    HasLogFault atoms (pieces_of log_limits bytes) (F.Place number)
IsLogReadFrom atoms bytes (Err (F.Limit number limit)) =
    HasLogFault atoms (pieces_of log_limits bytes) (F.Limit number limit)
IsLogReadFrom atoms bytes (Err F.ReadFault) = Unit {0}
IsLogReadFrom atoms bytes (Err F.Memory) = Unit {0}
