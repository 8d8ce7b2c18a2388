use Rattle.std.proofs.Common.{◌≡◌, ◌*◌, ◌^◌, ◌≤◌, Some, take}
use Rattle.hv_task.specs.Strips.{IsState, start_state}
use Rattle.hv_task.specs.Plan.{run_of}
use Rattle.hv_bound.specs.Costs.{cost_of_list}
use Rattle.hv_bound.specs.Working.LongActions.{AreKeptWords}
use Rattle.hv_bound.proofs.plan_check.check_plan.Given as goal

abbrev pub invariant-loop-place : goal.invariant-loop-place
invariant-loop-place l = record {
  run : run_of l.task (take l.place l.list) (start_state l.task) ≡ Some l.state;
  cost : l.cost ≡ cost_of_list l.task (take l.place l.list);
  small : l.cost ≤ l.place * 2 ^ 32;
  state : IsState l.task l.state;
  kept : AreKeptWords l.task l.long;
}
