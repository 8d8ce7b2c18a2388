use Rattle.std.proofs.Common.{◌≡◌, ◌<◌, ℕ, get_or, true}
use Rattle.std.specs.List.{Contains}
use Rattle.hv_task.specs.State.{has_atom}
use Rattle.hv_explicit.proofs.atom_columns.among.Given as goal

abbrev pub invariant-loop-place : goal.invariant-loop-place
invariant-loop-place l = record {
  only : (p : ℕ) → Contains l.less.items p → Contains l.places p;
  all : (j : ℕ) → j < l.place-index → has_atom l.flags (get_or l.places j 0) ≡ true
      → Contains l.less.items (get_or l.places j 0);
}
