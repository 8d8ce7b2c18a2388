use Rattle.std.proofs.Common.{◌≡◌, drop}
use Rattle.hv_task.specs.Strips.{IsState, start_state}
use Rattle.hv_task.specs.Plan.{run_of}
use Rattle.hv_task.proofs.task.Task.solves.Given as goal

abbrev pub invariant-loop-number : goal.invariant-loop-number
invariant-loop-number l = record {
  rest : run_of l.self (drop l.number-index l.list) l.state
      ≡ run_of l.self l.list (start_state l.self);
  state : IsState l.self l.state;
}
