-- Clauses that are marked as left.
use Rattle.std.specs.Prelude.{◌≡◌, ◌<◌, ℕ, Bool, false, List, [], length, slice_index_or}
use Rattle.std.specs.List.{filter}
use Rattle.hv_task.specs.Strips.{Strips}
use Rattle.hv_sets.specs.declared.literal.Literal.{Literal}
use Rattle.hv_trap.specs.Working.Trap.{EncloseTrap}

-- the marks of the clauses are those of this set
abbrev pub AreMarks : (List Literal → Bool) → List (List Literal) → List Bool → Type 0
AreMarks stays clauses left =
    (k : ℕ) → k < length clauses
    → slice_index_or left k false ≡ stays (slice_index_or clauses k [])

-- there is a mark for each clause, and those that are left deny some conjunctions, of which those
-- of the greatest trap are some
pub record AreMarkedLeft (task : Strips) (clauses : List (List Literal)) (left : List Bool)
    : Type 0 where
  pub stays : List Literal → Bool
  pub count : length left ≡ length clauses
  pub marks : AreMarks stays clauses left
  pub enclose : EncloseTrap task (filter stays clauses)
