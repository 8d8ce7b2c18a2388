use Rattle.std.proofs.Common.{◌≡◌, ◌<◌, ◌≤◌, ℕ, true}
use Rattle.std.specs.List.{Contains}
use Rattle.hv_explicit.specs.ListedStates.{AreStates}
use Rattle.hv_replay.specs.Logs.{LogEntry, StandsInLog}
use Rattle.hv_replay.proofs.leading.expanded_between.Given as goal

abbrev pub invariant-loop-place : goal.invariant-loop-place
invariant-loop-place l = record {
  below : AreStates l.log.atoms l.states;
  lists : (before : ℕ) (entry : LogEntry) → l.fn.part.from ≤ before → before < l.place
      → StandsInLog l.log before entry → entry.expanded ≡ true → Contains l.states entry.state;
}
