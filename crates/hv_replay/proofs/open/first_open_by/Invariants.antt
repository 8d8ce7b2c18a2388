use Rattle.std.proofs.Common.{◌≡◌, ◌<◌, ℕ, length}
use Rattle.hv_task.specs.Strips.{IsState}
use Rattle.hv_replay.specs.Closed.{LeadsOn}
use Rattle.hv_replay.specs.Working.Following.{LeadAllOn}
use Rattle.hv_replay.proofs.open.first_open_by.Given as goal

abbrev pub invariant-loop-place : goal.invariant-loop-place
invariant-loop-place l = record {
  before : (before action : ℕ) → before < l.place → LeadsOn l.task l.log before action;
  asked : length l.asked.items ≡ length l.log.entries;
  lead : LeadAllOn l.task l.log l.asked.items;
  state : IsState l.task l.state;
}
