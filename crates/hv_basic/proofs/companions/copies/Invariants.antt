use Rattle.std.proofs.Common.{◌≡◌, length}
use Rattle.std.specs.List.{All}
use Rattle.hv_basic.proofs.companions.copies.Given as goal

abbrev pub invariant-loop-place : goal.invariant-loop-place
invariant-loop-place l = record {
  size : length l.rows.items ≡ l.place;
  each : All (λ row. row ≡ l.state) l.rows.items;
}
