-- Working definitions beside those of `Progress`: for private contracts and proofs.
use Rattle.std.specs.Prelude.{◌≡◌, ◌<◌, ◌+◌, ℕ, List, length}
use Rattle.std.specs.List.{Contains}
use Rattle.hv_task.specs.State.{state_of}
use Rattle.hv_task.specs.Strips.{Strips, atoms}
use Rattle.hv_lines.specs.Drafts.{IsGoodTable}
use Rattle.hv_lines.specs.Meaning.{SetOfStates}
use Rattle.hv_lines.specs.Pruning.{states_in}
use Rattle.hv_lines.specs.declared.line.Line.{Line}
use Rattle.hv_replay.specs.Closed.{IsFirstWithout, IsJustified}
use Rattle.hv_replay.specs.Logs.{SearchLog}
use Rattle.hv_replay.specs.Working.PrunedLines.{IsPrunedUnion}
use Rattle.hv_replay.specs.Replayed.{ArePruned}
use Rattle.hv_replay.specs.declared.hole.ReplayFault.{ReplayFault}
use Rattle.hv_replay.specs.declared.hole.ReplayFault.TheVariants as H
use Rattle.hv_lines.specs.declared.note.Note.{Note}

-- these pruned states have their lines, and their union holds each of them
pub record IsProgress (task : Strips) (states : List (List ℕ)) (lines : List Line) (union : Note)
    : Type 0 where
  pub good : IsGoodTable task lines
  pub pruned : ArePruned states lines union
  pub dead : IsPrunedUnion lines (length states) union
  pub inside : (held : List ℕ) → Contains states held
      → states_in task lines union.set (state_of (atoms task) held)

-- the fault names the first pruned state that isn't covered; running out of memory is free
abbrev pub IsUncovered : SearchLog → SetOfStates → ReplayFault → Type 0
IsUncovered log covered (H.Unjustified line) =
    (place : ℕ) × (line ≡ place + 1) × (place < length log.entries)
    × IsFirstWithout (IsJustified log covered) place
IsUncovered log covered H.Memory = Unit {0}
IsUncovered log covered _ = ⊥
