use Rattle.std.proofs.Common.{◌≡◌, ◌<◌, ℕ, true, get_or, length}
use Rattle.hv_task.specs.State.{has_atom}
use Rattle.hv_reach.specs.Working.NoteRows.{ColumnsHave}
use Rattle.hv_reach.specs.Reached.{has_pair}
use Rattle.hv_reach.proofs.columns.meet_columns.Given as goal

abbrev pub invariant-loop-atom : goal.invariant-loop-atom
invariant-loop-atom l = record {
  size : length l.mask ≡ 512;
  sound : (k : ℕ) → k < l.atom-index → (j : ℕ) → has_atom l.mask j ≡ true
      → has_pair l.columns.items (get_or l.list k 0) j ≡ true;
  complete : (j : ℕ) → ColumnsHave l.columns.items l.list j → has_atom l.mask j ≡ true;
}
