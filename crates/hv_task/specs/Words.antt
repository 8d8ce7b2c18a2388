-- States as flags that are kept 64 a word.
use Rattle.std.specs.Prelude.{◌≡◌, ◌≤◌, ◌<◌, ◌+◌, ◌*◌, ◌↔◌, ℕ, Bool, true, List, length}
use Rattle.std.specs.Prelude.{slice_index}
use Rattle.std.specs.Int.{bit_at}
use Rattle.hv_task.specs.State.{has_atom}

-- the words of a state: one for each 64 atoms, the last one possibly not full; bit b of word w is 1
-- exactly where the atom 64 * w + b is in the state
pub record AreWords (state : List Bool) (words : List ℕ) : Type 0 where
  pub upto : length state ≤ 64 * length words
  pub tight : 64 * length words < length state + 64
  pub bit : (w b : ℕ) → b < 64
      → (bit_at (slice_index words w) b ≡ 1) ↔ (has_atom state (64 * w + b) ≡ true)
