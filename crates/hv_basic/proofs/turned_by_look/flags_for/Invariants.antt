use Rattle.std.proofs.Common.{◌≡◌, ◌<◌, ℕ, [], get_or, length}
use Rattle.std.specs.List.{All}
use Rattle.hv_basic.specs.Working.Framed.{IsFlagged}
use Rattle.hv_basic.proofs.turned_by_look.flags_for.Given as goal

abbrev pub invariant-loop-place : goal.invariant-loop-place
invariant-loop-place l = record {
  size : length l.flags.items ≡ l.atoms;
  each : (i : ℕ) → i < l.place
      → All (IsFlagged l.value l.adds l.flags.items) (get_or l.clauses i []);
}
