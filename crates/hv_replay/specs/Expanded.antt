-- The expanded states of a log, as its proof lists them.
use Rattle.std.specs.Prelude.{ℕ, List, map}
use Rattle.std.specs.List.{filter}
use Rattle.hv_replay.specs.Logs.{LogEntry, SearchLog}

-- the expanded ones of these entries, in order
abbrev pub expanded_in : List LogEntry → List (List ℕ)
expanded_in entries =
    map (λ (entry : LogEntry). entry.state) (filter (λ (entry : LogEntry). entry.expanded) entries)

-- the expanded states, in the log's order
abbrev pub expanded_states : SearchLog → List (List ℕ)
expanded_states log = expanded_in log.entries
