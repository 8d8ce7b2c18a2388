use Rattle.std.proofs.Common.{◌≡◌, ◌<◌, ℕ, length}
use Rattle.hv_task.specs.State.{has_atom}
use Rattle.hv_reach.specs.Working.NoteRows.{AreColumns}
use Rattle.hv_reach.specs.Reached.{has_pair}
use Rattle.hv_reach.proofs.columns.enter.Given as goal

abbrev pub invariant-loop-atom : goal.invariant-loop-atom
invariant-loop-atom l = record {
  size : length l.columns.items ≡ length l.fn.columns.items;
  sized : AreColumns 512 l.columns.items;
  here : (p : ℕ) → p < l.atom → has_pair l.columns.items p l.place ≡ has_atom l.row p;
  others : (p j : ℕ) → (j ≡ l.place → ⊥) → has_pair l.columns.items p j
      ≡ has_pair l.fn.columns.items p j;
}
