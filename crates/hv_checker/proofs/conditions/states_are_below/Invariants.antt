use Rattle.std.proofs.Common.{ℕ, ◌<◌, [], get_or}
use Rattle.hv_task.specs.State.{AreBelow}
use Rattle.hv_checker.proofs.conditions.states_are_below.Given as goal

abbrev pub invariant-loop-place : goal.invariant-loop-place
invariant-loop-place l = (k : ℕ) → k < l.place → AreBelow l.count (get_or l.states k [])
