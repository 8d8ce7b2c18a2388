-- The text of the task of a cost bound.
use Rattle.std.specs.Prelude.{◌≡◌, ℕ, ◌≤◌, List, length}
use Rattle.hv_bytes.specs.Standard.{most_file_bytes, standard}
use Rattle.hv_task.specs.Strips.{Strips}
use Rattle.hv_task_text.specs.Canonical.{canonical_of}
use Rattle.hv_task_text.specs.TaskText.{TaskText}
use Rattle.hv_bound.specs.Bounded.{IsTooLarge, bounded_task}

-- The text is the canonical one of the task that a cost bound makes of the task that is read from
-- the file. The made task is within the limits of tasks, and its text within that of files.
pub record IsBoundText (file : List ℕ) (task : Strips) (most : ℕ) (text : List ℕ) : Type 0 where
  pub read : TaskText standard file task
  pub fits : IsTooLarge task most → ⊥
  pub written : text ≡ canonical_of (bounded_task task most)
  pub short : length text ≤ most_file_bytes
