use Rattle.std.proofs.Common.{◌≡◌, ◌<◌, ℕ, true}
use Rattle.hv_replay.specs.Logs.{LogEntry, StandsInLog}
use Rattle.hv_replay.proofs.expanded.are_expanded.Given as goal

abbrev pub invariant-loop-place : goal.invariant-loop-place
invariant-loop-place l =
    (before : ℕ) (entry : LogEntry) → before < l.place → StandsInLog l.log before entry
    → entry.expanded ≡ true
