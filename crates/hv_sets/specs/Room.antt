-- The room of a scratch.
use Rattle.std.specs.Prelude.{◌≡◌, ◌≤◌, ◌*◌, ℕ, length}
use Rattle.std.specs.Vec.{vec_len}
use Rattle.hv_sets.specs.declared.scratch.Scratch.{Scratch}

-- there is space for a task with so many atoms, and for so many operands and clauses
pub record HasRoom (atoms operands clauses : ℕ) (scratch : Scratch) : Type 0 where
  pub state : length scratch.state ≡ atoms
  pub marks : 4 * atoms ≤ vec_len scratch.marks
  pub counts : clauses ≤ vec_len scratch.counts
  pub queue : 4 * atoms ≤ vec_len scratch.queue
  pub choice : operands ≤ vec_len scratch.choice

-- none of the four lengths fell
pub record KeepsLengths (old new : Scratch) : Type 0 where
  pub marks : vec_len old.marks ≤ vec_len new.marks
  pub counts : vec_len old.counts ≤ vec_len new.counts
  pub queue : vec_len old.queue ≤ vec_len new.queue
  pub choice : vec_len old.choice ≤ vec_len new.choice
