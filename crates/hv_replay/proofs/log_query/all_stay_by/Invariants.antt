use Rattle.std.proofs.Common.{◌≡◌, ◌<◌, ℕ}
use Rattle.hv_replay.specs.Working.Leading.{IsLogQuery, StaysInFirst}
use Rattle.hv_replay.proofs.log_query.all_stay_by.Given as goal

abbrev pub invariant-loop-action : goal.invariant-loop-action
invariant-loop-action l = record {
  query : IsLogQuery l.asking;
  number : l.asking.number ≡ l.fn.asking.number;
  stay : (action : ℕ) → action < l.action → StaysInFirst l.task l.sets l.fn.asking.number action;
}
