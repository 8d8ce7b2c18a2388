-- Logs of a search: the states that it expanded and those that it pruned, in order.
use Rattle.std.specs.Prelude.{◌≡◌, ◌≤◌, ℕ, Bool, true, false, List, ◌∷◌, Some, codes, decimal}
use Rattle.std.specs.Prelude.{length, map, not, slice_get}
use Rattle.std.specs.List.{All, count_by, join_with_byte, sum_by}
use Rattle.std.specs.List.Sorted.{IsStrictlyIncreasing}
use Rattle.hv_task.specs.State.{AreBelow}

-- a state of a log, by the atoms that it holds: an expanded one or a pruned one
pub record LogEntry : Type 0 where
  pub expanded : Bool
  pub state : List ℕ

-- a log: how many atoms the task has, and the entries; the entry at place i is that of line i + 1
pub record SearchLog : Type 0 where
  pub atoms : ℕ
  pub entries : List LogEntry

-- the entry is at this place
abbrev pub StandsInLog : SearchLog → ℕ → LogEntry → Type 0
StandsInLog log place entry = slice_get log.entries place ≡ Some entry

-- a state of a task with so many atoms, by the atoms that it holds, which rise
pub record IsAtomSet (atoms : ℕ) (held : List ℕ) : Type 0 where
  pub below : AreBelow atoms held
  pub rises : IsStrictlyIncreasing held

-- the entry's state is one
abbrev pub IsLogEntry : ℕ → LogEntry → Type 0
IsLogEntry atoms entry = IsAtomSet atoms entry.state

-- how many entries are expanded states
abbrev pub expanded_count : List LogEntry → ℕ
expanded_count entries = count_by (λ e. e.expanded) entries

-- how many entries are pruned states
abbrev pub pruned_count : List LogEntry → ℕ
pruned_count entries = count_by (λ e. not e.expanded) entries

-- no more of them than a log may have
pub record AreFew (entries : List LogEntry) : Type 0 where
  pub expanded : expanded_count entries ≤ 1000000
  pub pruned : pruned_count entries ≤ 65000

-- the letter of an expanded state is x, that of a pruned one p
abbrev pub letter_of : Bool → List ℕ
letter_of true = codes "x"
letter_of false = codes "p"

-- the line of an entry: its letter and its atoms, parted by one space
abbrev pub entry_line : LogEntry → List ℕ
entry_line entry = join_with_byte 32 (letter_of entry.expanded ∷ map decimal entry.state)

-- how many bytes the lines of the entries have together, their LFs not counted
abbrev pub listed_bytes : List LogEntry → ℕ
listed_bytes entries = sum_by (λ entry. length (entry_line entry)) entries

-- what every log keeps: its entries are those of a task, not too many of them, and their lines have
-- no more bytes than a log may have
pub record IsLog (atoms : ℕ) (entries : List LogEntry) : Type 0 where
  pub each : All (IsLogEntry atoms) entries
  pub few : AreFew entries
  pub small : listed_bytes entries ≤ 8388608
