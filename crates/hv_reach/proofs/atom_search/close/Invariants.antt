use Rattle.std.proofs.Common.{◌≡◌, ◌+◌, ℕ, true, length}
use Rattle.hv_task.specs.State.{has_atom}
use Rattle.hv_reach.specs.Reached.{Keeps}
use Rattle.hv_reach.specs.Working.Waiting.{AreActionsSettled, IsKeptSearch, missing, GrowsWithin}
use Rattle.hv_reach.proofs.atom_search.close.Given as goal

-- it goes on with every turn: an atom leaves the queue, and each that comes to it was missing
abbrev pub invariant-loop-atom : goal.invariant-loop-atom
invariant-loop-atom l = record {
  size : length l.held ≡ length l.fn.held;
  kept : IsKeptSearch l.task.actions l.held l.queue.items l.passed;
  settled : AreActionsSettled l.task.actions l.held l.queue.items l.passed;
  actions : length l.passed ≡ length l.fn.passed;
  grows : (p : ℕ) → has_atom l.fn.held p ≡ true → has_atom l.held p ≡ true;
  least : GrowsWithin (Keeps l.task.actions) l.fn.held l.held;
}

abbrev pub decreases-loop-atom : goal.decreases-loop-atom
decreases-loop-atom l = missing l.held + length l.queue.items
