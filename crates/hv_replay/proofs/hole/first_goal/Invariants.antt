use Rattle.std.proofs.Common.{◌<◌, ℕ}
use Rattle.hv_replay.specs.Closed.{IsGoalFree}
use Rattle.hv_replay.proofs.hole.first_goal.Given as goal

abbrev pub invariant-loop-place : goal.invariant-loop-place
invariant-loop-place l = (before : ℕ) → before < l.place → IsGoalFree l.task l.log before
