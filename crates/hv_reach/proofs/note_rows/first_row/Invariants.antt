use Rattle.std.proofs.Common.{◌≡◌, ◌<◌, ◌≤◌, ◌*◌, ℕ, length}
use Rattle.hv_reach.specs.Working.NoteRows.{RowHas}
use Rattle.hv_reach.proofs.note_rows.first_row.Given as goal

abbrev pub invariant-loop-block : goal.invariant-loop-block
invariant-loop-block l = record {
  size : length l.mask ≡ 512;
  before : (k : ℕ) → l.from ≤ k → k < 512 * l.block → RowHas l.rows.items l.list k → ⊥;
}
