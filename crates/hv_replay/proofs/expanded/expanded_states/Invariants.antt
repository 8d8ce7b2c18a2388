use Rattle.std.proofs.Common.{◌≡◌, take}
use Rattle.hv_replay.specs.Expanded.{expanded_in}
use Rattle.hv_replay.proofs.expanded.expanded_states.Given as goal

abbrev pub invariant-loop-place : goal.invariant-loop-place
invariant-loop-place l = l.states ≡ expanded_in (take l.place l.log.entries)
