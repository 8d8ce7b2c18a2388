use Rattle.std.proofs.Common.{◌<◌, ◌≤◌, ℕ, get_or, length}
use Rattle.hv_task.specs.State.{state_of}
use Rattle.hv_task.specs.Strips.{atoms}
use Rattle.hv_rows.specs.Rows.{IsInRow}
use Rattle.hv_replay.specs.Working.Following.{StaysListed}
use Rattle.hv_replay.proofs.open.least_exit.Given as goal

abbrev pub invariant-loop-atom : goal.invariant-loop-atom
invariant-loop-atom l = record {
  upto : l.least ≤ length l.task.actions;
  last : (action : ℕ) → IsInRow l.rows.items (atoms l.task) action → action < l.least
      → StaysListed l.task l.listed (state_of (atoms l.task) l.held) action;
  each : (k : ℕ) → k < l.atom-index → (action : ℕ) → IsInRow l.rows.items (get_or l.held k 0)
      action
      → action < l.least
      → StaysListed l.task l.listed (state_of (atoms l.task) l.held) action;
  exit : l.least < length l.task.actions → StaysListed l.task l.listed
      (state_of (atoms l.task) l.held) l.least → ⊥;
}
