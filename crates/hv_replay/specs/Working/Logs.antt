-- Working definitions beside those of `Logs`: for private contracts and proofs.
use Rattle.std.specs.Prelude.{ℕ, Bool, List, [], ◌∷◌}
use Rattle.hv_replay.specs.declared.log_counts.Counts.{Counts}
use Rattle.hv_replay.specs.Logs.{LogEntry, expanded_count, pruned_count}

-- the entries of these states, each with the flag that says whether it is an expanded one
abbrev pub entries_of : List Bool → List (List ℕ) → List LogEntry
entries_of (expanded ∷ flags) (held ∷ states) =
    record { expanded = expanded; state = held } ∷ entries_of flags states
entries_of _ _ = []

-- how many entries of each kind there are
abbrev pub counts_of : List LogEntry → Counts
counts_of entries = record { expanded = expanded_count entries; pruned = pruned_count entries }
