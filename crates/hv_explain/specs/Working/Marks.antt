-- Marks for `k` lines.
use Rattle.std.specs.Prelude.{◌≡◌, ◌≤◌, ◌↔◌, ℕ, Bool, true, false, List, Some, fold, length}
use Rattle.std.specs.Prelude.{slice_index_or, slice_set}
use Rattle.std.specs.List.{All}
use Rattle.hv_lines.specs.Numbering.{known_count, premises_at}
use Rattle.hv_lines.specs.declared.line.Line.{Line}
use Rattle.hv_explain.specs.Needed.{IsConclusion, IsNeeded}

-- whether the line with this identifier is marked; none is past the end
abbrev pub is_line_marked : List Bool → ℕ → Bool
is_line_marked marks id = slice_index_or marks id false

-- exactly the needed lines are marked
abbrev pub MarkNeeded : List Line → List Bool → Type 0
MarkNeeded lines marks = (id : ℕ) → (is_line_marked marks id ≡ true) ↔ IsNeeded lines id

-- the marks with these lines marked besides
abbrev pub mark_all : List Bool → List ℕ → List Bool
mark_all marks ids = fold (λ marks id. slice_set marks id true) marks ids

-- One mark for each line: the conclusion is marked, each marked line is needed, and the premises of
-- the marked lines from this identifier on are marked.
pub record AreMarkedFrom (from : ℕ) (lines : List Line) (marks : List Bool) : Type 0 where
  pub each : length marks ≡ known_count lines
  pub concludes : (id : ℕ) → IsConclusion lines id → is_line_marked marks id ≡ true
  pub needed : (id : ℕ) → is_line_marked marks id ≡ true → IsNeeded lines id
  pub keeps : (id : ℕ) (premises : List ℕ) → from ≤ id → premises_at lines id ≡ Some premises
      → is_line_marked marks id ≡ true
      → All (λ premise. is_line_marked marks premise ≡ true) premises
