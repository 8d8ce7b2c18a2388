use Rattle.std.proofs.Common.{◌≡◌, ◌<◌, ◌≤◌, ℕ, false, length}
use Rattle.std.specs.Prelude.{slice_index_or}
use Rattle.hv_task.specs.State.{has_atom}
use Rattle.hv_bdd.proofs.atom_order.Order.next_below.Given as goal

abbrev pub invariant-loop-place : goal.invariant-loop-place
invariant-loop-place l = record {
  none : (p : ℕ) → l.fn.from ≤ p → p < l.place
      → has_atom l.held (slice_index_or l.self-inside.atoms.items p
      (length l.self-inside.atoms.items)) ≡ false;
}
