use Rattle.std.proofs.Common.{◌≡◌, Bool, false, List, length, replicate}
use Rattle.std.specs.List.{All}
use Rattle.hv_reach.proofs.columns.empty_states.Given as goal

abbrev pub invariant-loop-place : goal.invariant-loop-place
invariant-loop-place l = record {
  size : length l.states.items ≡ l.place;
  each : All (λ (state : List Bool). state ≡ replicate l.atoms false) l.states.items;
}
