use Rattle.std.proofs.Common.{◌<◌, ◌≤◌, ℕ, get_or}
use Rattle.hv_replay.specs.Working.Following.{StaysFrom}
use Rattle.hv_replay.proofs.open.least_among.Given as goal

abbrev pub invariant-loop-action : goal.invariant-loop-action
invariant-loop-action l = record {
  upto : l.least ≤ l.bound;
  each : (k : ℕ) → k < l.action-index → get_or l.row k 0 < l.least
      → StaysFrom l.origin (get_or l.row k 0);
  exit : l.least < l.bound → StaysFrom l.origin l.least → ⊥;
}
