-- Working definitions beside those of `Pruning`: for private contracts and proofs.
use Rattle.std.specs.Prelude.{◌≡◌, ◌↔◌, IsTrue, ℕ, Bool, List, Option, Some, IfSome, IfNone}
use Rattle.std.specs.Prelude.{is_some, slice_get}
use Rattle.hv_task.specs.Strips.{Strips}
use Rattle.hv_lines.specs.Drafts.{DraftState}
use Rattle.hv_lines.specs.Meaning.{SetOfStates}
use Rattle.hv_lines.specs.Pruning.{Extends, IsDeadBy, IsNoted, IsPrunerAnswer}
use Rattle.hv_lines.specs.declared.line.Line.{Line}
use Rattle.hv_lines.specs.declared.note.Note.{Note}

-- the notes are in the lines, and each is of a set of this kind
abbrev pub AreNotesOf : Strips → SetOfStates → (List Line → ℕ → Type 0) → List Line → List Note
    → Type 0
AreNotesOf task covered IsKind lines notes =
    (k : ℕ) (note : Note) → slice_get notes k ≡ Some note
    → IsNoted task covered lines note × IsKind lines note.set

-- what is after an answer: whether there is one, what it shows, how the draft grew, and that
-- the notes fit it
pub record IsOutcome (task : Strips) (covered : SetOfStates) (IsKind : List Line → ℕ → Type 0)
    (IsBlock : List Line → Note → Type 0) (state : List Bool) (found : Option ℕ) (notes : List Note)
    (draft : DraftState) (new_notes : List Note) (new_draft : DraftState) : Type 0 where
  pub answer : IsPrunerAnswer task covered IsBlock state found notes draft new_notes new_draft
  pub some : IsTrue (is_some found) ↔ covered state
  pub dead : IfSome found (λ line. IsDeadBy task new_draft.lines state line)
  pub extends : Extends task draft.lines new_draft.lines
  pub none : IfNone found (new_draft ≡ draft)
  pub fits : AreNotesOf task covered IsKind new_draft.lines new_notes
