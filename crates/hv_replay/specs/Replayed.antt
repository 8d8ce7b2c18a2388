-- The proof that a closed log becomes.
use Rattle.std.specs.Prelude.{◌≡◌, ◌+◌, ◌++◌, ℕ, List, [], ◌∷◌, map, not}
use Rattle.std.specs.List.{filter}
use Rattle.hv_lines.specs.Drafts.{onto, prelude}
use Rattle.hv_lines.specs.Numbering.{expr_count, known_count}
use Rattle.hv_lines.specs.Rules.{Says}
use Rattle.hv_lines.specs.declared.line.Line.{Line}
use Rattle.hv_lines.specs.declared.line.Statement.TheVariants as T
use Rattle.hv_replay.specs.ClosingLines.{closing_lines}
use Rattle.hv_replay.specs.Expanded.{expanded_states}
use Rattle.hv_replay.specs.Logs.{LogEntry, SearchLog}
use Rattle.hv_replay.specs.PrunedLines.{pruned_lines, pruned_word}
use Rattle.hv_lines.specs.declared.note.Note.{Note}

-- the pruned ones of these entries, in order
abbrev pub pruned_in : List LogEntry → List (List ℕ)
pruned_in entries =
    map (λ (entry : LogEntry). entry.state)
    (filter (λ (entry : LogEntry). not entry.expanded) entries)

-- the five lines of a pruned state, put after these lines, which say that `holder` is dead
abbrev pub after_pruned : List Line → List ℕ → Note → Note → List Line
after_pruned lines held holder union =
    onto (pruned_lines (expr_count lines) (known_count lines) held
    (pruned_word lines holder.set) holder union) lines

-- the union of the pruned states with the one whose lines are put after these
abbrev pub union_after : List Line → Note
union_after lines = record { set = expr_count lines + 1; line = known_count lines + 2 }

-- The lines, of which the newest is the first, begin as every draft does, and go on with these
-- pruned states: for each some lines, after which one says that a set is dead, and its five
-- lines. The union of these states so far is at first the empty set.
pub data ArePruned : List (List ℕ) → List Line → Note → Type 0 where
  none : ArePruned [] (onto prelude []) (record { set = 0; line = 0 })
  one_more : (states : List (List ℕ)) (lines more : List Line) (union : Note) (held : List ℕ)
      (holder : Note) → ArePruned states lines union
      → Says (onto more lines) holder.line (T.Dead holder.set)
      → ArePruned (states ++ held ∷ []) (after_pruned (onto more lines) held holder union)
      (union_after (onto more lines))

-- the lines are a proof that replays the log: its pruned states, and the twelve closing lines
abbrev pub IsReplayed : SearchLog → List Line → Type 0
IsReplayed log lines =
    (pruned : List Line) × (union : Note) × ArePruned (pruned_in log.entries) pruned union
    × (lines ≡ onto (closing_lines (expr_count pruned) (known_count pruned) (expanded_states log)
    union) pruned)
