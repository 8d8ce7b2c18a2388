use Rattle.std.proofs.Common.{◌≡◌, length}
use Rattle.hv_task.specs.Strips.{IsState}
use Rattle.hv_reach.specs.Reached.{Keeps}
use Rattle.hv_reach.specs.Working.Waiting.{AreActionsSettledBut, IsKeptSearch, GrowsQueued}
use Rattle.hv_reach.specs.Working.Waiting.{GrowsWithin}
use Rattle.hv_reach.proofs.atom_search.wake.Given as goal

abbrev pub invariant-loop-number : goal.invariant-loop-number
invariant-loop-number l = record {
  step : GrowsQueued l.fn.held l.fn.queue.items l.held l.queue.items;
  state : IsState l.task l.held;
  actions : length l.passed ≡ length l.fn.passed;
  kept : IsKeptSearch l.task.actions l.held l.queue.items l.passed;
  settled : AreActionsSettledBut l.numbers l.number-index l.task.actions l.held l.queue.items
      l.passed;
  least : GrowsWithin (Keeps l.task.actions) l.fn.held l.held;
}
