use Rattle.std.proofs.Common.{◌≡◌, ◌<◌, ◌-◌, ℕ, Some, length, slice_get}
use Rattle.hv_lines.specs.Pruning.{states_in}
use Rattle.hv_lines.specs.declared.note.Note.{Note}
use Rattle.hv_reach.proofs.pair_pruner.first_noted.Given as goal

abbrev pub invariant-loop-place : goal.invariant-loop-place
invariant-loop-place l =
    (k : ℕ) (note : Note) → k < l.from → slice_get l.kept.noted.notes.items k ≡ Some note
    → states_in l.task l.draft.lines note.set l.state → ⊥

abbrev pub decreases-loop-place : goal.decreases-loop-place
decreases-loop-place l = length l.kept.noted.rows.rows - l.from
