use Rattle.std.proofs.Common.{◌≡◌, take}
use Rattle.hv_sets.proofs.listed_state.widen.Given as goal

abbrev pub invariant-loop-place : goal.invariant-loop-place
invariant-loop-place l = take l.place l.space ≡ take l.place l.atoms
