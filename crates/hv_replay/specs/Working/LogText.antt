-- Working definitions beside those of `LogText`: for private contracts and proofs.
use Rattle.std.specs.Prelude.{◌≡◌, ℕ, List}
use Rattle.hv_replay.specs.Logs.{IsLogEntry, LogEntry, entry_line}

-- the line is that of this entry, of a task with so many atoms
pub record IsEntryLine (atoms : ℕ) (line : List ℕ) (entry : LogEntry) : Type 0 where
  pub spelled : line ≡ entry_line entry
  pub legal : IsLogEntry atoms entry
