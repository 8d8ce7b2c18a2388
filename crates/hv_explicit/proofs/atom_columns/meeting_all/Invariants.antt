use Rattle.std.proofs.Common.{◌≡◌, ℕ, true}
use Rattle.std.specs.List.{Contains}
use Rattle.hv_task.specs.State.{has_atom}
use Rattle.hv_explicit.specs.Working.Columns.{HasFlag}
use Rattle.hv_explicit.proofs.atom_columns.meeting_all.Given as goal

abbrev pub invariant-loop-place : goal.invariant-loop-place
invariant-loop-place l = (place : ℕ) → ((atom : ℕ) → Contains l.atoms atom
    → Contains l.columns.keys.items atom
    → HasFlag l.columns.keys.items l.columns.flags.items atom place)
    → has_atom l.met place ≡ true
